use Rattle.std.proofs.Common.{◌≡◌, suc, ◌≤◌, length}
use Rattle.forms.specs.declared.prefix.Prefix.{Prefix}
use Rattle.state.specs.Memory.{SameMemory, lent_by, tables_of}
use Rattle.grammar.specs.Lines.{LongRest}
use Rattle.restore.specs.Restored.{LongRecord, listing_of, Sets, Reached}
use Rattle.restore.proofs.again.restore.Given as goal

-- so many lines are read, of those that there are
abbrev pub invariant-loop-line : goal.invariant-loop-line
invariant-loop-line l =
    (l.first ≡ l.fn.first) × (tables_of l.told ≡ tables_of l.fn.told) × SameMemory l.fn.told l.told × SameMemory l.fn.memory l.memory
    × ((x : Prefix) (y : LongRest) (es : LongRecord) → Sets x y es l.fn.first (tables_of l.fn.told) (lent_by l.fn.told) (lent_by l.fn.memory)
    → (l.line ≤ suc (length (listing_of x y es))) × Reached x y es l.line l.console (tables_of l.memory))
