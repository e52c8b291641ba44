-- A line that comes in byte by byte.
use Rattle.std.specs.Prelude.{◌≡◌, ℕ, suc, List, take}
use Rattle.tables.specs.FixedVec.{used}
use Rattle.grammar.specs.Limits.{max_line}
use Rattle.lines.specs.declared.intake.Intake.{Intake}

-- the bytes of a line that are kept: one more than a line may have
abbrev pub max_kept : ℕ
max_kept = suc max_line

-- the front of this text is held, which may go on
abbrev pub Holds : Intake → List ℕ → Type 0
Holds t text = used t.front ≡ take max_kept text
