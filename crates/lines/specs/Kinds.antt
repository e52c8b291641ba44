-- The kinds of the Long form, as the register's definitions take them: what regions hold, and how they lie in rows.
use Rattle.std.specs.Prelude.{ℕ}
use Rattle.kinds.specs.Pair.{pair_holds, both}
use Rattle.forms.specs.Prefix.{prefix_holds, prefix_of}
use Rattle.forms.specs.Range.{range_holds, range_of}
use Rattle.kinds.specs.declared.kind.Kind.{Ghosts}
use Rattle.kinds.specs.declared.pair.Pair.{Pair}
use Rattle.forms.specs.declared.prefix.Prefix.{Prefix}
use Rattle.forms.specs.declared.prefix.PrefixRow.{PrefixRow}
use Rattle.forms.specs.declared.range.Range.{Range}
use Rattle.forms.specs.declared.range.RangeRow.{RangeRow}
use Rattle.grammar.specs.Lines.{LongRest, LongRestValue}
use Rattle.state.specs.Rows.{Stored}

abbrev pub address_kind : Ghosts Prefix ℕ PrefixRow
address_kind = record { holds = prefix_holds; plain = λ x. record { address = x.address; length = x.length }; region = λ w. prefix_of w.address w.length }

abbrev pub range_kind : Ghosts Range ℕ RangeRow
range_kind = record { holds = range_holds; plain = λ x. record { lo = x.lo; hi = x.hi }; region = λ w. range_of w.lo w.hi }

abbrev pub pair_kind : {A B V W X Y : Type 0} → Ghosts A V X → Ghosts B W Y → Ghosts (Pair A B) (Pair V W) (Pair X Y)
pair_kind ka kb = record {
  holds = pair_holds ka.holds kb.holds;
  plain = λ x. record { left = ka.plain x.left; right = kb.plain x.right };
  region = λ w. both (ka.region w.left) (kb.region w.right);
}

abbrev pub LongRestRow : Type 0
LongRestRow = Pair RangeRow (Pair RangeRow RangeRow)

abbrev pub rest_kind : Ghosts LongRest LongRestValue LongRestRow
rest_kind = pair_kind range_kind (pair_kind range_kind range_kind)

-- what the tables of a register of this form hold
abbrev pub LongStored : Type 0
LongStored = Stored PrefixRow LongRestRow
