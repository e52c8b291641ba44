-- Every call of a listing can be said by a line.
use Rattle.std.proofs.Common.{ℕ, ◌^◌, ◌<◌, refl, arith}
use Rattle.std.specs.List.{AllByRecursion}
use Rattle.kinds.specs.Pair.{pair_holds}
use Rattle.forms.specs.Prefix.{prefix_holds}
use Rattle.forms.specs.Range.{range_holds}
use Rattle.kinds.specs.Words.{Inside}
use Rattle.forms.specs.declared.prefix.Prefix.{Prefix}
use Rattle.model.specs.Limits.{max_domains, max_list}
use Rattle.model.specs.Refusals.{RuleInside}
use Rattle.model.specs.Tree.{start}
use Rattle.model.specs.declared.calls.Call.TheVariants as call
use Rattle.model.specs.declared.rules.Rule.{Rule}
use Rattle.rebuild.specs.Again.{Modest}
use Rattle.grammar.specs.Lines.{LongCall, LongRest, LongRestValue, call_values, region_values, rule_values}
use Rattle.grammar.specs.Sayable.{Sayable, InType, CallInBounds, RestInBounds}
use Rattle.grammar.specs.declared.line.Line.TheVariants as line
use Rattle.grammar.proofs.Bounds.{sayable_in_bounds}
use Rattle.lines.specs.Wholes.{LongWholes}

-- the rests that a region of Long holds
abbrev pub long_holds : LongRest → LongRestValue → Type 0
long_holds = pair_holds range_holds (pair_holds range_holds range_holds)

module _ (x : Prefix) (y : LongRest) (w : LongWholes x y) where
  address_small : (a : Prefix) → Inside (prefix_holds a) (prefix_holds x) → a.address < 2 ^ 32
  address_small a h = w.addresses.0 a.address (h a.address refl)

  -- a region of rests holds its own last values
  rest_in_bounds : (r : LongRest) → Inside (long_holds r) (long_holds y) → RestInBounds r
  rest_in_bounds r h =
      let last : LongRestValue = record { left = r.left.hi; right = record { left = r.right.left.hi; right = r.right.right.hi } } in
      let (source, (destination, protocol)) = h last ((r.left.ordered, omega arith), ((r.right.left.ordered, omega arith), (r.right.right.ordered, omega arith))) in
      (w.source_ports.0 r.left.hi source, w.destination_ports.0 r.right.left.hi destination, w.protocols.0 r.right.right.hi protocol)

  regions_small : (s d : Prefix) (r : LongRest) → Inside (prefix_holds s) (prefix_holds x) → Inside (prefix_holds d) (prefix_holds x) → RestInBounds r → AllByRecursion InType (region_values s d r)
  regions_small s d r i j (k, l, m) = (address_small s i, (address_small d j, (omega arith, (omega arith, (omega arith, tt)))))

  -- place and alter
  edit_bounded : (f p : ℕ) (q : Rule Prefix LongRest) → (f < max_domains) × (p < max_list) × RuleInside prefix_holds long_holds (start x y) q → CallInBounds (call.Place f p q) × AllByRecursion InType (rule_values f p q)
  edit_bounded f p q (a, b, i) =
      let rest = rest_in_bounds q.rest i.rest in
      ((omega arith, omega arith, rest), (omega arith, (omega arith, (tt, (tt, regions_small q.source q.destination q.rest i.source i.destination rest)))))

  bounded : (c : LongCall) → Modest prefix_holds long_holds x y c → CallInBounds c × AllByRecursion InType (call_values c)
  bounded (call.Attach d i j v) (a, b, e) = ((omega arith, omega arith, omega arith), (omega arith, (omega arith, (omega arith, (tt, tt)))))
  bounded (call.Branch f i) (a, b) = ((omega arith, omega arith), (omega arith, (omega arith, tt)))
  bounded (call.Give d p) (a, i) = (omega arith, (omega arith, (address_small p i, tt)))
  bounded (call.Take b) m = absurd m
  bounded (call.Place f p q) m = edit_bounded f p q m
  bounded (call.Alter f p q) m = edit_bounded f p q m
  bounded (call.Lift f p) m = absurd m
  bounded (call.Stand p) (a, b, i) =
      let rest = rest_in_bounds p.rest i.rest in
      ((omega arith, omega arith, rest), (tt, (omega arith, (omega arith, regions_small p.source p.destination p.rest i.source i.destination rest))))
  bounded (call.Withdraw n) m = absurd m
  bounded (call.Ask p) m = absurd m
  bounded (call.Send h) m = absurd m

pub modest_speakable : (x : Prefix) (y : LongRest) → LongWholes x y → (c : LongCall) → Modest prefix_holds long_holds x y c → Sayable (line.Call c) × AllByRecursion InType (call_values c)
modest_speakable x y w c m = let (bounds, types) = bounded x y w c m in ((sayable_in_bounds (line.Call c)).1 bounds, types)
