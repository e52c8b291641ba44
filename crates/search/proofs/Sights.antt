-- The entries of a view, and their regions.
use Rattle.std.proofs.Common.{◌≡◌, ℕ, zero, suc, ◌≤◌, List, [], ◌∷◌, length, Some, arith}
use mathlib.Core.List.{Memᴰ}
use Rattle.std.specs.List.{slice_get}
use Rattle.search.specs.View.{regions_of}
use Rattle.search.specs.declared.sight.Sight.{Sight}
use Rattle.search.specs.declared.sight.Sight.TheVariants.{Good, Bad, Passed}

module _ {X : Type 0} where
  good_one : {x y : X} → Some (Good x) ≡ Some (Good y) → y ≡ x
  good_one e = cc

  bad_one : {x y : X} → Some (Bad x) ≡ Some (Bad y) → y ≡ x
  bad_one e = cc

  member_next : (s : Sight X) (ss : List (Sight X)) (e : X) → Memᴰ e (regions_of ss) → Memᴰ e (regions_of (s ∷ ss))
  member_next (Good x) ss e m = Memᴰ.tail m
  member_next (Bad x) ss e m = Memᴰ.tail m
  member_next Passed ss e m = m

  -- the region of an entry is one of the regions
  pub member_good : (ss : List (Sight X)) (n : ℕ) (e : X) → slice_get ss n ≡ Some (Good e) → Memᴰ e (regions_of ss)
  member_good [] n e at = let z : ◌≡◌ {A = ℕ} 0 1 = cc in absurd (omega arith)
  member_good (Good x ∷ ss) zero e at = Memᴰ.head (good_one at)
  member_good (Bad x ∷ ss) zero e at = let z : ◌≡◌ {A = ℕ} 0 1 = cc in absurd (omega arith)
  member_good (Passed ∷ ss) zero e at = let z : ◌≡◌ {A = ℕ} 0 1 = cc in absurd (omega arith)
  member_good (s ∷ ss) (suc n) e at = member_next s ss e (member_good ss n e at)

  pub member_bad : (ss : List (Sight X)) (n : ℕ) (e : X) → slice_get ss n ≡ Some (Bad e) → Memᴰ e (regions_of ss)
  member_bad [] n e at = let z : ◌≡◌ {A = ℕ} 0 1 = cc in absurd (omega arith)
  member_bad (Bad x ∷ ss) zero e at = Memᴰ.head (bad_one at)
  member_bad (Good x ∷ ss) zero e at = let z : ◌≡◌ {A = ℕ} 0 1 = cc in absurd (omega arith)
  member_bad (Passed ∷ ss) zero e at = let z : ◌≡◌ {A = ℕ} 0 1 = cc in absurd (omega arith)
  member_bad (s ∷ ss) (suc n) e at = member_next s ss e (member_bad ss n e at)

  -- there are no more regions than entries
  pub regions_few : (ss : List (Sight X)) → length (regions_of ss) ≤ length ss
  regions_few [] = omega arith
  regions_few (Good x ∷ ss) = let few = regions_few ss in omega arith
  regions_few (Bad x ∷ ss) = let few = regions_few ss in omega arith
  regions_few (Passed ∷ ss) = let few = regions_few ss in omega arith
