-- A route is no longer than there are firewalls: it enters none twice.
use Rattle.std.proofs.Common.{◌≡◌, ℕ, ◌<◌, ◌≤◌, true, false, eqb, List, [], ◌∷◌, length, inl, inr, subst, sym}
use Rattle.std.specs.List.{list_any, IsDistinct, AllByRecursion}
use Rattle.std.proofs.lemmas.Bool.{ne_eqb}
use Rattle.std.proofs.lemmas.List.{length-map}
use Rattle.std.proofs.lemmas.Bool.Decides.{eqb_tells}
use Rattle.std.proofs.lemmas.Map.Steps.{length-le_from_distinct_below}
use Rattle.model.specs.Shape.{Shape, Walk, Absent, Distinct, firewalls_on, Route, Sound}
use Rattle.model.specs.declared.path.Hop.{Hop}
use Rattle.model.proofs.Subtrees.{joined_within}

absent_all : (x : ℕ) (ys : List ℕ) → Absent x ys → AllByRecursion (λ y. eqb x y ≡ false) ys
absent_all x [] none = tt
absent_all x (y ∷ ys) none = (ne_eqb x y none.0, absent_all x ys none.1)

distinct_is : (xs : List ℕ) → Distinct xs → IsDistinct eqb xs
unfolding IsDistinct
distinct_is [] once = tt
distinct_is (x ∷ xs) once = (absent_all x xs once.0, distinct_is xs once.1)

module _ (s : Shape) (ok : Sound s) where
  entered_within : (u v : ℕ) (hs : List Hop) → Walk s u hs v → (f : ℕ) → list_any (eqb f) (firewalls_on hs) ≡ true → f < length s.firewalls
  entered_within u v [] walk f on = cc
  entered_within u v (h ∷ hs) walk f on = elim (eqb_tells f h.firewall) [
    | inl (_, same) ↦ subst (λ g. g < length s.firewalls) (sym same) (joined_within s ok h.firewall u h.entered walk.0)
    | inr (other, _) ↦ entered_within h.reached v hs walk.2 f (rw other at on)
  ]

  pub route_short : (u v : ℕ) (hs : List Hop) → Route s u v hs → length hs ≤ length s.firewalls
  route_short u v hs r =
      let few = length-le_from_distinct_below (firewalls_on hs) (length s.firewalls) (distinct_is (firewalls_on hs) r.firewalls_once) (entered_within u v hs r.walk) in
      rw length-map at few
