-- One hop up in a tree, and what is found by going up.
use Rattle.std.proofs.Common.{◌≡◌, ℕ, ◌<◌, ◌≤◌, Some, None, Option, sym, refl, subst, inl, inr, arith}
use Rattle.std.proofs.lemmas.Option.{slice_get_within}
use native.Mathlib.Decide.{ℕ_discrete}
use Rattle.model.specs.Shape.{Shape, Domain, Hangs, Lies, Sound}
use Rattle.model.specs.Subtree.{Sub, self, climb}
use Rattle.model.specs.declared.path.Hop.{Hop}
use Rattle.model.proofs.Subtrees.{lies_one, sub_step, sub_le, sub_root}
use Rattle.tree.specs.Toward.{BranchOf, ChildOf}

pub branch_own : (s : Shape) (d f : ℕ) (h : Hop) → Lies s d h.firewall h.entered → h.firewall ≡ f → BranchOf s f d (Some d)
branch_own s d f h from same = (h.entered, subst (λ x. Lies s d x h.entered) same from, self refl)

-- what is found from the domain that a hop up reaches
module _ (s : Shape) (d : ℕ) (h : Hop) (from : Lies s d h.firewall h.entered) (onto : Hangs s h.firewall h.reached h.left) where
  pub branch_more : (f : ℕ) (r : Option ℕ) → (h.firewall ≡ f → ⊥) → BranchOf s f h.reached r → BranchOf s f d r
  branch_more f None other none = λ e i l r. elim (sub_step s e d h.firewall h.entered h.reached h.left from onto r) [
    | inl same ↦ other (lies_one s e h.firewall h.entered f i (subst (λ x. Lies s x h.firewall h.entered) same from) l).0
    | inr u ↦ none e i l u
  ]
  branch_more f (Some e) other found = let (i, l, r) = found in (i, l, climb from onto r)

  pub child_own : (u : ℕ) → h.reached ≡ u → ChildOf s u d (Some d)
  child_own u same = (h.firewall, h.entered, h.left, from, subst (λ x. Hangs s h.firewall x h.left) same onto, self refl)

  pub child_more : (u : ℕ) (r : Option ℕ) → (h.reached ≡ u → ⊥) → ChildOf s u h.reached r → ChildOf s u d r
  child_more u None other none = λ r. elim (sub_step s u d h.firewall h.entered h.reached h.left from onto r) [
    | inl same ↦ same
    | inr v ↦ absurd (other (none v))
  ]
  child_more u (Some e) other found = let (f, i, j, l, k, r) = found in (f, i, j, l, k, climb from onto r)

-- what lies somewhere is a domain, and not domain 0
pub row_in : (s : Shape) (e f i : ℕ) → Lies s e f i → (0 < e) × Domain s e
row_in s e f i (k, is, at) = let less = slice_get_within s.domains k _ at in (omega arith, omega arith)

module _ (s : Shape) (ok : Sound s) where
  pub child_low : (u d : ℕ) → d ≤ u → ChildOf s u d None
  child_low u d le r = let low = sub_le s ok u d r in omega arith

  -- where v is not below u, u is not domain 0
  pub not_zero : (u v : ℕ) → Domain s v → (u ≡ v → ⊥) → ChildOf s u v None → 0 < u
  not_zero u v there apart outside = elim (ℕ_discrete u 0) [
    | yes none ↦ absurd (apart (sym (outside (subst (λ x. Sub s x v) (sym none) (sub_root s ok v there)))))
    | no some ↦ omega arith
  ]
