-- The trees that calls make are sound.
use Rattle.std.proofs.Common.{◌≡◌, ℕ, zero, suc, ◌<◌, ◌⊎◌, List, [], ◌∷◌, ◌++◌, length, Some, sym, refl, ap, subst, inl, inr, arith, length-append}
use Rattle.std.specs.List.{slice_get}
use Rattle.model.proofs.Rows.{nth_push}
use Rattle.model.specs.Shape.{Shape, Domain, Firewall, Hangs, Lies, Joined, Sound, bare, attached, branched}
use Rattle.model.specs.declared.path.Uplink.{Uplink}
use Rattle.model.proofs.Subtrees.{nth_within, nth_some}

pub nth_old : {X : Type 0} (xs ys : List X) (k : ℕ) (x : X) → slice_get xs k ≡ Some x → slice_get (xs ++ ys) k ≡ Some x
nth_old [] ys k x e = let z : ◌≡◌ {A = ℕ} 0 1 = cc in absurd (omega arith)
nth_old (y ∷ xs) ys zero x e = e
nth_old (y ∷ xs) ys (suc k) x e = nth_old xs ys k x e

pub nth_last : {X : Type 0} (xs : List X) (x : X) → slice_get (xs ++ (x ∷ [])) (length xs) ≡ Some x
nth_last [] x = refl
nth_last (y ∷ xs) x = nth_last xs x

pub sound_bare : Sound bare
sound_bare = record {
  hangs = λ f d i e. let z : ◌≡◌ {A = ℕ} 0 1 = cc in absurd (omega arith);
  falls = λ d f i l. let e = l.2 in let z : ◌≡◌ {A = ℕ} 0 1 = cc in absurd (omega arith);
  one = λ f d e i a b. absurd (none f d i a);
  low = λ f d i a. absurd (none f d i a);
}
  where
    none : (f d i : ℕ) → Joined bare f d i → ⊥
    none f d i (inl e) = let z : ◌≡◌ {A = ℕ} 0 1 = cc in omega arith
    none f d i (inr (k, a, e)) = let z : ◌≡◌ {A = ℕ} 0 1 = cc in omega arith

module _ (s : Shape) (ok : Sound s) where
  pub joined_firewall : (f d i : ℕ) → Joined s f d i → Firewall s f
  joined_firewall f d i (inl h) = nth_within s.firewalls f _ h
  joined_firewall f d i (inr l) = let (c, j, h, less) = ok.falls d f i l in nth_within s.firewalls f _ h

  module _ (d i j : ℕ) (in-s : Domain s d) (low-i : i < 32) (low-j : j < 32) (differ : i ≡ j → ⊥) where
    hangs_new : (f c k : ℕ) → Hangs (attached s d i j) f c k → Hangs s f c k ⊎ ((f ≡ length s.firewalls) × (c ≡ d) × (k ≡ i))
    hangs_new f c k h = elim (nth_push s.firewalls _ _ f h) [
      | inl old ↦ inl old
      | inr (at, e) ↦ inr (at, ap (λ (u : Uplink). u.node) e, ap (λ (u : Uplink). u.interface) e)
    ]

    lies_new : (c f k : ℕ) → Lies (attached s d i j) c f k → Lies s c f k ⊎ ((f ≡ length s.firewalls) × (c ≡ suc (length s.domains)) × (k ≡ j))
    lies_new c f k (m, a, at) = elim (nth_push s.domains _ _ m at) [
      | inl old ↦ inl (m, a, old)
      | inr (new, e) ↦ inr (ap (λ (u : Uplink). u.node) e, omega arith, ap (λ (u : Uplink). u.interface) e)
    ]

    -- joined as before, or at the new firewall
    joined_new : (f c k : ℕ) → Joined (attached s d i j) f c k → (Joined s f c k × Firewall s f) ⊎ ((f ≡ length s.firewalls) × (((c ≡ d) × (k ≡ i)) ⊎ ((c ≡ suc (length s.domains)) × (k ≡ j))))
    joined_new f c k (inl h) = elim (hangs_new f c k h) [
      | inl old ↦ inl (inl old, joined_firewall f c k (inl old))
      | inr (a, b, e) ↦ inr (a, inl (b, e))
    ]
    joined_new f c k (inr l) = elim (lies_new c f k l) [
      | inl old ↦ inl (inr old, joined_firewall f c k (inr old))
      | inr (a, b, e) ↦ inr (a, inr (b, e))
    ]

    more : length (attached s d i j).domains ≡ suc (length s.domains)
    more = omega (arith, length-append s.domains (record { node = length s.firewalls; interface = j } ∷ []))

    pub sound_attached : Sound (attached s d i j)
    sound_attached = record {
      hangs = λ f c k h. elim (hangs_new f c k h) [
        | inl old ↦ let was = ok.hangs f c k old in omega (arith, more)
        | inr new ↦ omega (arith, more)
      ];
      falls = λ c f k l. elim (lies_new c f k l) [
        | inl old ↦ let (b, m, h, less) = ok.falls c f k old in (b, m, nth_old s.firewalls _ f _ h, less)
        | inr (a, b, e) ↦ (d, i, subst (λ x. Hangs (attached s d i j) x d i) (sym a) (nth_last s.firewalls _), omega arith)
      ];
      one = λ f c e k a b. elim (joined_new f c k a) [
        | inl (was, at) ↦ elim (joined_new f e k b) [
          | inl (old, too) ↦ ok.one f c e k was old
          | inr new ↦ absurd (omega arith)
        ]
        | inr (at, new) ↦ elim (joined_new f e k b) [
          | inl (old, too) ↦ absurd (omega arith)
          | inr (too, other) ↦ elim new [
            | inl (c-is, k-is) ↦ elim other [ inl (e-is, m-is) ↦ omega arith | inr (e-is, m-is) ↦ absurd (differ (omega arith)) ]
            | inr (c-is, k-is) ↦ elim other [ inl (e-is, m-is) ↦ absurd (differ (omega arith)) | inr (e-is, m-is) ↦ omega arith ]
          ]
        ]
      ];
      low = λ f c k a. elim (joined_new f c k a) [
        | inl (was, at) ↦ ok.low f c k was
        | inr (at, new) ↦ elim new [ inl (c-is, k-is) ↦ omega arith | inr (c-is, k-is) ↦ omega arith ]
      ];
    }

  module _ (f i : ℕ) (in-s : Firewall s f) (low-i : i < 32) (unused : (d : ℕ) → Joined s f d i → ⊥) where
    branch_new : (c g k : ℕ) → Lies (branched s f i) c g k → Lies s c g k ⊎ ((g ≡ f) × (c ≡ suc (length s.domains)) × (k ≡ i))
    branch_new c g k (m, a, at) = elim (nth_push s.domains _ _ m at) [
      | inl old ↦ inl (m, a, old)
      | inr (new, e) ↦ inr (ap (λ (u : Uplink). u.node) e, omega arith, ap (λ (u : Uplink). u.interface) e)
    ]

    branch_joined : (g c k : ℕ) → Joined (branched s f i) g c k → Joined s g c k ⊎ ((g ≡ f) × (c ≡ suc (length s.domains)) × (k ≡ i))
    branch_joined g c k (inl h) = inl (inl h)
    branch_joined g c k (inr l) = elim (branch_new c g k l) [ inl old ↦ inl (inr old) | inr new ↦ inr new ]

    branch_more : length (branched s f i).domains ≡ suc (length s.domains)
    branch_more = omega (arith, length-append s.domains (record { node = f; interface = i } ∷ []))

    pub sound_branched : Sound (branched s f i)
    sound_branched = record {
      hangs = λ g c k h. let was = ok.hangs g c k h in omega (arith, branch_more);
      falls = λ c g k l. elim (branch_new c g k l) [
        | inl old ↦ ok.falls c g k old
        | inr (a, b, e) ↦
            let (u, at) = nth_some s.firewalls f in-s in
            let was = ok.hangs f u.node u.interface at in
            (u.node, u.interface, subst (λ x. Hangs s x u.node u.interface) (sym a) at, omega arith)
      ];
      one = λ g c e k a b. elim (branch_joined g c k a) [
        | inl was ↦ elim (branch_joined g e k b) [
          | inl old ↦ ok.one g c e k was old
          | inr (same, c-is, k-is) ↦ absurd (unused c (subst (λ x. Joined s f c x) k-is (subst (λ x. Joined s x c k) same was)))
        ]
        | inr (same, c-is, k-is) ↦ elim (branch_joined g e k b) [
          | inl old ↦ absurd (unused e (subst (λ x. Joined s f e x) k-is (subst (λ x. Joined s x e k) same old)))
          | inr (too, e-is, m-is) ↦ omega arith
        ]
      ];
      low = λ g c k a. elim (branch_joined g c k a) [ inl was ↦ ok.low g c k was | inr (same, c-is, k-is) ↦ omega arith ];
    }
