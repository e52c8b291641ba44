-- The subtrees of a tree, and how a hop changes the one that it is in.
use Rattle.std.proofs.Common.{◌≡◌, ℕ, zero, suc, ◌<◌, ◌≤◌, ◌⊎◌, List, [], ◌∷◌, length, Some, sym, refl, ap, ◌∙◌, subst, inl, inr, arith}
use native.Mathlib.Decide.{ℕ_discrete}
use Rattle.std.specs.List.{slice_get}
pub use Rattle.search.proofs.Positions.{nth_within}
use Rattle.model.specs.Shape.{Shape, Domain, Hangs, Lies, Joined, Walk, Absent, firewalls_on, Depth, top, under, Sound}
use Rattle.model.specs.Subtree.{Sub, self, climb}
use Rattle.model.specs.declared.path.Hop.{Hop}
use Rattle.model.specs.declared.path.Uplink.{Uplink}

pub nth_one : {X : Type 0} (xs : List X) (k : ℕ) (a b : X) → slice_get xs k ≡ Some a → slice_get xs k ≡ Some b → a ≡ b
nth_one xs k a b p q = cc

pub nth_some : {X : Type 0} (xs : List X) (k : ℕ) → k < length xs → (x : X) × (slice_get xs k ≡ Some x)
nth_some [] k h = absurd (omega arith)
nth_some (x ∷ xs) zero h = (x, refl)
nth_some (x ∷ xs) (suc k) h = nth_some xs k (omega arith)

module _ (s : Shape) where
  pub hangs_one : (f c j d k : ℕ) → Hangs s f c j → Hangs s f d k → (c ≡ d) × (j ≡ k)
  hangs_one f c j d k p q =
      let e = nth_one s.firewalls f _ _ p q in
      (ap (λ (u : Uplink). u.node) e, ap (λ (u : Uplink). u.interface) e)

  pub lies_one : (d f i g k : ℕ) → Lies s d f i → Lies s d g k → (f ≡ g) × (i ≡ k)
  lies_one d f i g k (m, a, p) (n, b, q) =
      let same : n ≡ m = omega arith in
      let e = nth_one s.domains m _ _ p (ap (slice_get s.domains) (sym same) ∙ q) in
      (ap (λ (u : Uplink). u.node) e, ap (λ (u : Uplink). u.interface) e)

  pub lies_not_zero : (f i : ℕ) → Lies s 0 f i → ⊥
  lies_not_zero f i (k, e, at) = omega arith

  pub sub_up : (e f i c j d : ℕ) → Lies s e f i → Hangs s f c j → Sub s e d → Sub s c d
  sub_up e f i c j d l h (self q) = climb (subst (λ x. Lies s x f i) (sym q) l) h (self refl)
  sub_up e f i c j d l h (climb m g r) = climb m g (sub_up e f i c j _ l h r)

  -- one step up from d
  pub sub_step : (e d f i c j : ℕ) → Lies s d f i → Hangs s f c j → Sub s e d → (d ≡ e) ⊎ Sub s e c
  sub_step e d f i c j l h (self q) = inl q
  sub_step e d f i c j l h (climb {f = g} {i = k} {c = b} {j = m} n o r) =
      let sames = lies_one d g k f i n l in
      let alike = hangs_one f b m c j (subst (λ x. Hangs s x b m) sames.0 o) h in
      inr (subst (Sub s e) alike.0 r)

module _ (s : Shape) (ok : Sound s) where
  pub above_less : (d f i c j : ℕ) → Lies s d f i → Hangs s f c j → c < d
  above_less d f i c j l h =
      let (b, k, g, less) = ok.falls d f i l in
      let same = hangs_one s f c j b k h g in
      omega (arith, same.0)

  pub sub_le : (e d : ℕ) → Sub s e d → e ≤ d
  sub_le e d (self q) = omega arith
  sub_le e d (climb {f = f} {i = i} {c = c} {j = j} l h r) =
      let less = above_less d f i c j l h in let low = sub_le e c r in omega arith

  pub parent : (d : ℕ) → Domain s d → (d ≡ 0 → ⊥) → (f : ℕ) × (i : ℕ) × (c : ℕ) × (j : ℕ) × Lies s d f i × Hangs s f c j × (c < d)
  parent zero in-s some = absurd (some refl)
  parent (suc k) in-s some =
      let (u, at) = nth_some s.domains k (omega arith) in
      let lies : Lies s (suc k) u.node u.interface = (k, refl, at) in
      let (c, j, h, less) = ok.falls (suc k) u.node u.interface lies in
      (u.node, u.interface, c, j, lies, h, less)

  pub joined_domain : (f d i : ℕ) → Joined s f d i → Domain s d
  joined_domain f d i (inl h) = ok.hangs f d i h
  joined_domain f d i (inr (k, e, at)) = let h = nth_within s.domains k _ at in omega arith

  pub joined_within : (f d i : ℕ) → Joined s f d i → f < length s.firewalls
  joined_within f d i (inl h) = nth_within s.firewalls f _ h
  joined_within f d i (inr l) = let (c, j, h, less) = ok.falls d f i l in nth_within s.firewalls f _ h

  -- a walk with a hop starts and ends at domains that there are
  walk_end : (u v : ℕ) (hs : List Hop) → Walk s u hs v → Domain s u → Domain s v
  walk_end u v [] walk in-s = omega arith
  walk_end u v (h ∷ hs) walk in-s = walk_end h.reached v hs walk.2 (joined_domain h.firewall h.reached h.left walk.1)

  pub walk_domains : (u v : ℕ) (h : Hop) (hs : List Hop) → Walk s u (h ∷ hs) v → Domain s u × Domain s v
  walk_domains u v h hs walk = let in-u = joined_domain h.firewall u h.entered walk.0 in (in-u, walk_end u v (h ∷ hs) walk in-u)

  -- a hop through another firewall than e's own leaves no subtree of e, nor enters it
  pub crossing : (e f i g x a y b : ℕ) → Lies s e f i → (g ≡ f → ⊥) → Joined s g x a → Joined s g y b → Sub s e x → Sub s e y
  crossing e f i g x a y b l n (inl p) (inl q) r = subst (Sub s e) (hangs_one s g x a y b p q).0 r
  crossing e f i g x a y b l n (inl p) (inr q) r = climb q p r
  crossing e f i g x a y b l n (inr p) (inl q) r = elim (sub_step s e x g a y b p q r) [
    | inl same ↦ absurd (n (lies_one s e g a f i (subst (λ z. Lies s z g a) same p) l).0)
    | inr t ↦ t
  ]
  crossing e f i g x a y b l n (inr p) (inr q) r =
      let (c, j, h, less) = ok.falls x g a p in
      elim (sub_step s e x g a c j p h r) [
        | inl same ↦ absurd (n (lies_one s e g a f i (subst (λ z. Lies s z g a) same p) l).0)
        | inr t ↦ climb q h t
      ]

  -- so does a walk that never passes through it
  pub walk_in : (e f i : ℕ) → Lies s e f i → (hs : List Hop) (x v : ℕ) → Absent f (firewalls_on hs) → Walk s x hs v → Sub s e x → Sub s e v
  walk_in e f i l [] x v none walk r = subst (Sub s e) walk r
  walk_in e f i l (h ∷ hs) x v none walk r =
      walk_in e f i l hs h.reached v none.1 walk.2
      (crossing e f i h.firewall x h.entered h.reached h.left l (λ same. none.0 (sym same)) walk.0 walk.1 r)

  pub walk_out : (e f i : ℕ) → Lies s e f i → (hs : List Hop) (x v : ℕ) → Absent f (firewalls_on hs) → Walk s x hs v → Sub s e v → Sub s e x
  walk_out e f i l [] x v none walk r = subst (Sub s e) (sym walk) r
  walk_out e f i l (h ∷ hs) x v none walk r =
      crossing e f i h.firewall h.reached h.left x h.entered l (λ same. none.0 (sym same)) walk.1 walk.0
      (walk_out e f i l hs h.reached v none.1 walk.2 r)

  -- a domain is in the subtree of one domain two levels below c
  pub child_one : (a f i b g k c j m d : ℕ) → Lies s a f i → Hangs s f c j → Lies s b g k → Hangs s g c m → Sub s a d → Sub s b d → a ≡ b
  child_one a f i b g k c j m d la hf lb hg (self q) t =
      elim (sub_step s b d f i c j (subst (λ x. Lies s x f i) (sym q) la) hf t) [
        | inl same ↦ omega arith
        | inr r ↦ let less = above_less b g k c m lb hg in let low = sub_le b c r in absurd (omega arith)
      ]
  child_one a f i b g k c j m d la hf lb hg (climb {f = f2} {i = i2} {c = c2} {j = j2} l h r) t =
      elim (sub_step s b d f2 i2 c2 j2 l h t) [
        | inl same ↦
            let sames = lies_one s b f2 i2 g k (subst (λ x. Lies s x f2 i2) same l) lb in
            let alike = (hangs_one s g c2 j2 c m (subst (λ x. Hangs s x c2 j2) sames.0 h) hg).0 in
            let less = above_less a f i c j la hf in
            let low = sub_le a c2 r in
            absurd (omega arith)
        | inr u ↦ child_one a f i b g k c j m c2 la hf lb hg r u
      ]

  -- two domains below one firewall
  pub branch_one : (f a i b k d : ℕ) → Lies s a f i → Lies s b f k → Sub s a d → Sub s b d → a ≡ b
  branch_one f a i b k d la lb ra rb =
      let (c, j, h, less) = ok.falls a f i la in
      child_one a f i b f k c j j d la h lb h ra rb

  sub_root' : (n d : ℕ) → d ≤ n → Domain s d → Sub s 0 d
  sub_root' zero d le in-s = self (omega arith)
  sub_root' (suc n) d le in-s = elim (ℕ_discrete d 0) [
    | yes e ↦ self e
    | no some ↦
        let (f, i, c, j, l, h, less) = parent d in-s some in
        climb l h (sub_root' n c (omega arith) (omega arith))
  ]

  pub sub_root : (d : ℕ) → Domain s d → Sub s 0 d
  sub_root d in-s = sub_root' d d (omega arith) in-s

  sub_dec' : (n e d : ℕ) → d ≤ n → Domain s d → Dec (Sub s e d)
  sub_dec' zero e d le in-s = elim (ℕ_discrete d e) [
    | yes same ↦ yes (self same)
    | no other ↦ no (λ r. let low = sub_le e d r in other (omega arith))
  ]
  sub_dec' (suc n) e d le in-s = elim (ℕ_discrete d e) [
    | yes same ↦ yes (self same)
    | no other ↦ elim (ℕ_discrete d 0) [
      | yes none ↦ no (λ r. let low = sub_le e d r in other (omega arith))
      | no some ↦
          let (f, i, c, j, l, h, less) = parent d in-s some in
          elim (sub_dec' n e c (omega arith) (omega arith)) [
            | yes r ↦ yes (climb l h r)
            | no not ↦ no (λ r. elim (sub_step s e d f i c j l h r) [ inl same ↦ other same | inr t ↦ not t ])
          ]
    ]
  ]

  pub sub_dec : (e d : ℕ) → Domain s d → Dec (Sub s e d)
  sub_dec e d in-s = sub_dec' d e d (omega arith) in-s

  -- d is in the subtree of a domain below f
  abbrev pub Under : ℕ → ℕ → Type 0
  Under f d = (e : ℕ) × (i : ℕ) × Lies s e f i × Sub s e d

  pub under_zero : (f d : ℕ) → d ≡ 0 → (e i : ℕ) → Lies s e f i → Sub s e d → ⊥
  under_zero f d none e i l r = let low = sub_le e d r in let zeros : e ≡ 0 = omega arith in lies_not_zero s f i (subst (λ x. Lies s x f i) zeros l)

  under_dec' : (n f d : ℕ) → d ≤ n → Domain s d → Under f d ⊎ ((e i : ℕ) → Lies s e f i → Sub s e d → ⊥)
  under_dec' zero f d le in-s = inr (under_zero f d (omega arith))
  under_dec' (suc n) f d le in-s = elim (ℕ_discrete d 0) [
    | yes none ↦ inr (under_zero f d none)
    | no some ↦
        let (g, i, c, j, l, h, less) = parent d in-s some in
        elim (ℕ_discrete g f) [
          | yes same ↦ inl (d, i, subst (λ x. Lies s d x i) same l, self refl)
          | no other ↦ elim (under_dec' n f c (omega arith) (omega arith)) [
            | inl (e, k, m, r) ↦ inl (e, k, m, climb l h r)
            | inr none ↦ inr (λ e k m r. elim (sub_step s e d g i c j l h r) [
              | inl same ↦ other (lies_one s e g i f k (subst (λ x. Lies s x g i) same l) m).0
              | inr t ↦ none e k m t
            ])
          ]
        ]
  ]

  pub under_dec : (f d : ℕ) → Domain s d → Under f d ⊎ ((e i : ℕ) → Lies s e f i → Sub s e d → ⊥)
  under_dec f d in-s = under_dec' d f d (omega arith) in-s

  -- the domain on the way from u down to v
  pub child : (u v : ℕ) → (v ≡ u → ⊥) → Sub s u v → (w : ℕ) × (f : ℕ) × (i : ℕ) × (j : ℕ) × Lies s w f i × Hangs s f u j × Sub s w v
  child u v other (self q) = absurd (other q)
  child u v other (climb {f = f} {i = i} {c = c} {j = j} l h r) = elim (ℕ_discrete c u) [
    | yes same ↦ (v, f, i, j, l, subst (λ x. Hangs s f x j) same h, self refl)
    | no differ ↦
        let (w, g, k, m, below, hung, t) = child u c differ r in
        (w, g, k, m, below, hung, climb l h t)
  ]

  depth_exists' : (n d : ℕ) → d ≤ n → Domain s d → (m : ℕ) × Depth s d m × (m ≤ d)
  depth_exists' zero d le in-s = (0, top (omega arith) refl, omega arith)
  depth_exists' (suc n) d le in-s = elim (ℕ_discrete d 0) [
    | yes none ↦ (0, top none refl, omega arith)
    | no some ↦
        let (f, i, c, j, l, h, less) = parent d in-s some in
        let (m, deep, low) = depth_exists' n c (omega arith) (omega arith) in
        (suc m, under l h deep refl, omega arith)
  ]

  pub depth_exists : (d : ℕ) → Domain s d → (m : ℕ) × Depth s d m × (m ≤ d)
  depth_exists d in-s = depth_exists' d d (omega arith) in-s

pub depth_one : (s : Shape) (d m n : ℕ) → Depth s d m → Depth s d n → m ≡ n
depth_one s d m n (top a b) (top p q) = omega arith
depth_one s d m n (top a b) (under {f = f} {i = i} l h r e) = absurd (lies_not_zero s f i (subst (λ x. Lies s x f i) a l))
depth_one s d m n (under {f = f} {i = i} l h r e) (top a b) = absurd (lies_not_zero s f i (subst (λ x. Lies s x f i) a l))
depth_one s d m n (under {f = f} {i = i} {c = c} {j = j} {m = p} l h r e) (under {f = g} {i = k} {c = b} {j = o} {m = q} l2 h2 r2 e2) =
    let sames = lies_one s d g k f i l2 l in
    let alike = hangs_one s f b o c j (subst (λ x. Hangs s x b o) sames.0 h2) h in
    let deep = depth_one s c p q r (subst (λ x. Depth s x q) alike.0 r2) in
    omega arith
