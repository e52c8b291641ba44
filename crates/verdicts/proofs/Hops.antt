-- The hops of a walk.
use Rattle.std.proofs.Common.{◌≡◌, ℕ, zero, suc, List, [], ◌∷◌, Some, sym, ap, ◌∙◌, subst}
use Rattle.std.specs.List.{slice_get}
use Rattle.kinds.proofs.Provided.{none_some}
use Rattle.model.specs.Shape.{Shape, Joined, Walk, Absent, Distinct, firewalls_on}
use Rattle.model.specs.declared.path.Hop.{Hop}

absent_at : (x : ℕ) (hs : List Hop) → Absent x (firewalls_on hs) → (k : ℕ) (h : Hop) → slice_get hs k ≡ Some h → x ≡ h.firewall → ⊥
absent_at x [] none k h e = none_some e
absent_at x (y ∷ hs) none zero h e = let same : y ≡ h = cc in λ is. none.0 (is ∙ ap (λ (z : Hop). z.firewall) (sym same))
absent_at x (y ∷ hs) none (suc k) h e = absent_at x hs none.1 k h e

-- where no firewall comes twice, a hop is known by its firewall
pub firewall_one : (hs : List Hop) → Distinct (firewalls_on hs) → (j k : ℕ) (a b : Hop) → slice_get hs j ≡ Some a → slice_get hs k ≡ Some b → a.firewall ≡ b.firewall → a ≡ b
firewall_one [] once j k a b p q is = none_some p
firewall_one (h ∷ hs) once zero zero a b p q is = cc
firewall_one (h ∷ hs) once zero (suc k) a b p q is =
    let same : h ≡ a = cc in
    absurd (absent_at h.firewall hs once.0 k b q (ap (λ (z : Hop). z.firewall) same ∙ is))
firewall_one (h ∷ hs) once (suc j) zero a b p q is =
    let same : h ≡ b = cc in
    absurd (absent_at h.firewall hs once.0 j a p (ap (λ (z : Hop). z.firewall) same ∙ sym is))
firewall_one (h ∷ hs) once (suc j) (suc k) a b p q is = firewall_one hs once.1 j k a b p q is

-- each hop enters its firewall from a domain that is joined to it
pub hop_joined : (s : Shape) (hs : List Hop) (u v : ℕ) → Walk s u hs v → (k : ℕ) (h : Hop) → slice_get hs k ≡ Some h → (d : ℕ) × Joined s h.firewall d h.entered
hop_joined s [] u v walk k h e = none_some e
hop_joined s (x ∷ hs) u v walk zero h e = let same : x ≡ h = cc in (u, subst (λ (y : Hop). Joined s y.firewall u y.entered) same walk.0)
hop_joined s (x ∷ hs) u v walk (suc k) h e = hop_joined s hs x.reached v walk.2 k h e
