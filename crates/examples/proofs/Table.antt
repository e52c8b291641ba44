-- The worked examples hold.
use Rattle.std.proofs.Common.{ℕ, ◌≤◌, refl, inl, inr, arith}
use Rattle.kinds.specs.Words.{Inhabited}
use Rattle.forms.specs.Range.{range_holds}
use Rattle.forms.specs.Prefix.{prefix_holds}
use Rattle.kinds.specs.Set.{set_holds}
use Rattle.forms.specs.declared.range.Range.{Range}
use Rattle.forms.specs.declared.prefix.Prefix.{Prefix}
use Rattle.kinds.specs.declared.set.Set.{Set}
use Rattle.forms.proofs.Halves.{common_in}
use Rattle.kinds.specs.Masks.{some_bit}
use Rattle.kinds.proofs.Bits.{and_common}
use Rattle.examples.specs.Examples.{Examples, range, prefix, ip, mask, range_rows, two_rules, one_block}
use Rattle.search.proofs.Positions.{before_none, before_more, before_all}
use Rattle.kinds.proofs.Provided.{provided_cases, provided_fits}
use native.Mathlib.Decide.{dec_le}
use Rattle.kinds.proofs.Relations.{meet_known, meet_nothing, split_nothing}

range_some : (x : Range) → Inhabited (range_holds x)
range_some x = (x.lo, (omega arith, x.ordered))

prefix_some : (x : Prefix) → Inhabited (prefix_holds x)
prefix_some x = (x.address, refl)

set_some : (x : Set) → Inhabited (set_holds x)
set_some x = some_bit x.mask x.some x.few

held : (lo hi v : ℕ) → lo ≤ v → v ≤ hi → range_rows (record { lo = lo; hi = hi }) v
held lo hi v low high =
    provided_cases (dec_le lo hi) (λ h. record { lo = lo; hi = hi; ordered = h }) ⊥ (λ (x : Range). range_holds x v) (λ n. n (omega arith)) (λ h. (low, high))

bounds : (lo hi v : ℕ) → range_rows (record { lo = lo; hi = hi }) v → (lo ≤ v) × (v ≤ hi)
bounds lo hi v h = (provided_fits (dec_le lo hi) (λ k. record { lo = lo; hi = hi; ordered = k }) (λ (x : Range). range_holds x v) h).1

pub examples : Examples
examples = record {
  touching = meet_known range_holds range_some _ _ _ (record { left = λ v h. omega arith; right = λ v h. omega arith; all = λ v h k. omega arith }) (range_some (range 9 9 tt));
  neighbours = meet_nothing range_holds range_some _ _ (λ v h k. omega arith);
  nested = split_nothing range_holds range_some _ _ (λ v h. omega arith);
  longer = meet_known prefix_holds prefix_some _ _ _ (common_in (ip 10 0 0 0) (ip 10 1 0 0) 24 16 (omega arith) refl) (prefix_some (prefix (ip 10 1 0 0) 16 tt refl));
  masks = meet_known set_holds set_some _ _ _ (and_common 5 6) (set_some (mask 4 tt tt));
  accepted = (record { row = record { lo = 20; hi = 30 }; outcome = 1 }, record { here = refl; fit = held 20 30 30 (omega arith) (omega arith); before = before_none _ two_rules }, refl);
  discarded = (
    record { row = record { lo = 0; hi = 1000 }; outcome = 0 },
    record {
      here = refl;
      fit = held 0 1000 31 (omega arith) (omega arith);
      before = before_more _ two_rules 0 (record { row = record { lo = 20; hi = 30 }; outcome = 1 }) refl (before_none _ two_rules) (λ h. let b = bounds 20 30 31 h in omega arith);
    },
    refl,
  );
  inside_block = inl (0, record { region = prefix (ip 10 0 0 0) 8 tt refl; domain = 1 }, refl, refl, refl);
  outside_block = inr (
    refl,
    before_all _ one_block.blocks 1 (omega arith)
        (before_more _ one_block.blocks 0 (record { region = prefix (ip 10 0 0 0) 8 tt refl; domain = 1 }) refl (before_none _ one_block.blocks) (λ h. omega arith)),
  );
  across = record {
    walk = (inr (1, refl, refl), inl refl, (inr (0, refl, refl), inr (2, refl, refl), refl));
    firewalls_once = omega arith;
    domains_once = omega arith;
  };
}
