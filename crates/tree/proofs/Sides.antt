-- The two sides of a firewall: the route goes through it from the side of u to the side of v, and not where they are one.
use Rattle.std.proofs.Common.{◌≡◌, ℕ, zero, suc, true, false, eqb, List, [], ◌∷◌, Some, None, Option, sym, refl, ap, ◌∙◌, subst, inl, inr, arith}
use native.Mathlib.Decide.{ℕ_discrete}
use Rattle.std.specs.Option.{option_eq}
use Rattle.std.proofs.lemmas.Bool.{eqb-false}
use Rattle.std.proofs.lemmas.Bool.Decides.{eqb_tells}
use Rattle.kinds.proofs.Provided.{none_some}
use Rattle.search.specs.First.{First, Before, Nowhere}
use Rattle.model.specs.Shape.{Shape, Domain, Firewall, Joined, Sound}
use Rattle.model.specs.Subtree.{self, Way, up, across, down}
use Rattle.model.specs.declared.path.Hop.{Hop}
use Rattle.model.proofs.Subtrees.{hangs_one, lies_one, above_less, sub_le, branch_one, crossing, joined_within, walk_domains}
use Rattle.model.proofs.Routes.{hop_path, Led, Separates, route_led, route_exists, way_joined, way_separates}
use Rattle.tree.specs.Path.{Through, HopThroughOf}
use Rattle.tree.specs.Toward.{BranchOf, SideOf}

-- what a test whether two branches are one tells
pub branches_one : (a b : Option ℕ) → option_eq eqb a b ≡ true → a ≡ b
branches_one None None e = refl
branches_one None (Some y) e = cc
branches_one (Some x) None e = cc
branches_one (Some x) (Some y) e = elim (eqb_tells x y) [ inl (_, same) ↦ ap Some same | inr (other, _) ↦ cc ]

pub branches_two : (a b : Option ℕ) → option_eq eqb a b ≡ false → a ≡ b → ⊥
branches_two None None e same = cc
branches_two None (Some y) e same = cc
branches_two (Some x) None e same = cc
branches_two (Some x) (Some y) e same = eqb-false x y e (let is : x ≡ y = cc in is)

-- one more in front of a list
module _ {X : Type 0} (fits : X → Type 0) (x : X) (xs : List X) (not : fits x → ⊥) where
  nowhere_cons : Nowhere fits xs → Nowhere fits (x ∷ xs)
  nowhere_cons none zero y at = let same : x ≡ y = cc in subst (λ z. fits z → ⊥) same not
  nowhere_cons none (suc k) y at = none k y at

  before_cons : (n : ℕ) → Before fits xs n → Before fits (x ∷ xs) (suc n)
  before_cons n before zero y less at = let same : x ≡ y = cc in subst (λ z. fits z → ⊥) same not
  before_cons n before (suc k) y less at = before k y (omega arith) at

  first_cons : (n : ℕ) (y : X) → First fits xs n y → First fits (x ∷ xs) (suc n) y
  first_cons n y first = record { here = first.here; fit = first.fit; before = before_cons n first.before }

module _ (s : Shape) (ok : Sound s) where
  side_one : (f : ℕ) (o : Option ℕ) (d i e j : ℕ) → SideOf s f o d i → SideOf s f o e j → (d ≡ e) × (i ≡ j)
  side_one f None d i e j p q = hangs_one s f d i e j p q
  side_one f (Some b) d i e j (is, p) (also, q) = (is ∙ sym also, (lies_one s b f i f j p q).1)

  branch_same : (f x : ℕ) (a b : Option ℕ) → BranchOf s f x a → BranchOf s f x b → a ≡ b
  branch_same f x None None p q = refl
  branch_same f x None (Some e) none (i, l, r) = absurd (none e i l r)
  branch_same f x (Some e) None (i, l, r) none = absurd (none e i l r)
  branch_same f x (Some d) (Some e) (i, l, r) (j, m, t) = ap Some (branch_one s ok f d i e j x l m r t)

  -- a hop through another firewall stays on its side
  branch_kept : (f x y g i j : ℕ) (o : Option ℕ) → (g ≡ f → ⊥) → Joined s g x i → Joined s g y j → BranchOf s f x o → BranchOf s f y o
  branch_kept f x y g i j None other a b none = λ e k l r. none e k l (crossing s ok e f k g y j x i l other b a r)
  branch_kept f x y g i j (Some e) other a b (k, l, r) = (k, l, crossing s ok e f k g x i y j l other a b r)

  module _ (x v : ℕ) (a b : Option ℕ) where
    -- what is on one side is not parted
    one_side : (f : ℕ) → BranchOf s f x b → BranchOf s f v b → Separates s f x v → ⊥
    one_side f near far (e, i, l, inl (t, not)) =
        let (j, m, r) = subst (BranchOf s f v) (branch_same f x b (Some e) near (i, l, t)) far in
        not r
    one_side f near far (e, i, l, inr (not, t)) =
        let (j, m, r) = subst (BranchOf s f x) (branch_same f v b (Some e) far (i, l, t)) near in
        not r

    -- a hop on the way to v goes from the side of x to that of v
    way_sides : (h : Hop) → Way s x v h → BranchOf s h.firewall x a → BranchOf s h.firewall v b → SideOf s h.firewall a x h.entered × SideOf s h.firewall b h.reached h.left
    way_sides h (up l k none) near far =
        let here = branch_same h.firewall x (Some x) a (h.entered, l, self refl) near in
        let there = branch_same h.firewall v None b none far in
        (subst (λ o. SideOf s h.firewall o x h.entered) here (refl, l), subst (λ o. SideOf s h.firewall o h.reached h.left) there k)
    way_sides h (across l m other r) near far =
        let here = branch_same h.firewall x (Some x) a (h.entered, l, self refl) near in
        let there = branch_same h.firewall v (Some h.reached) b (h.left, m, r) far in
        (subst (λ o. SideOf s h.firewall o x h.entered) here (refl, l), subst (λ o. SideOf s h.firewall o h.reached h.left) there (refl, m))
    way_sides h (down k m r) near far =
        let none : BranchOf s h.firewall x None = λ e i l t.
        let low = sub_le s ok e x t in
        let less = above_less s ok e h.firewall i x h.entered l k in
        omega arith in
        let here = branch_same h.firewall x None a none near in
        let there = branch_same h.firewall v (Some h.reached) b (h.left, m, r) far in
        (subst (λ o. SideOf s h.firewall o x h.entered) here k, subst (λ o. SideOf s h.firewall o h.reached h.left) there (refl, m))

  module _ (f v : ℕ) (b : Option ℕ) (far : BranchOf s f v b) where
    -- from the side of v no hop through f leads there
    away : (hs : List Hop) (x : ℕ) → Led s x hs v → BranchOf s f x b → Nowhere (Through f) hs
    away [] x led near = λ k y at. none_some at
    away (h ∷ hs) x (way, led) near =
        let other : Through f h → ⊥ = λ e. one_side x v b b f near far (subst (λ g. Separates s g x v) e (way_separates s ok x v h way)) in
        let (p, q) = way_joined s ok x v h way in
        nowhere_cons (Through f) h hs other (away hs h.reached led (branch_kept f x h.reached h.firewall h.entered h.left b other p q near))

    module _ (a : Option ℕ) (differ : a ≡ b → ⊥) (d : ℕ) (k : Hop) (through : Through f k) (here : SideOf s f a d k.entered) (there : SideOf s f b k.reached k.left) where
      same_hop : (h : Hop) (x : ℕ) → h.firewall ≡ f → SideOf s f a x h.entered → SideOf s f b h.reached h.left → h ≡ k
      same_hop h x same p q =
          let (_, entered) = side_one f a x h.entered d k.entered p here in
          let (reached, left) = side_one f b h.reached h.left k.reached k.left q there in
          hop_path h k (same ∙ sym through) entered left reached

      -- from the other side the hop k does
      crossed : (hs : List Hop) (x : ℕ) → Led s x hs v → BranchOf s f x a → (n : ℕ) × First (Through f) hs n k
      crossed [] x led near = absurd (differ (branch_same f v a b (subst (λ y. BranchOf s f y a) led near) far))
      crossed (h ∷ hs) x (way, led) near = elim (ℕ_discrete h.firewall f) [
        | yes same ↦
            let (p, q) = way_sides x v a b h way (subst (λ g. BranchOf s g x a) (sym same) near) (subst (λ g. BranchOf s g v b) (sym same) far) in
            let is = same_hop h x same (subst (λ g. SideOf s g a x h.entered) same p) (subst (λ g. SideOf s g b h.reached h.left) same q) in
            (0, record { here = ap Some is; fit = through; before = λ m y less. absurd (omega arith) })
        | no other ↦
            let (p, q) = way_joined s ok x v h way in
            let (n, first) = crossed hs h.reached led (branch_kept f x h.reached h.firewall h.entered h.left a other p q near) in
            (suc n, first_cons (Through f) h hs other n k first)
      ]

  -- what the two sides tell of the route
  pub same_side : (f u v : ℕ) (a b : Option ℕ) → BranchOf s f u a → BranchOf s f v b → a ≡ b → HopThroughOf s u v f None
  same_side f u v a b near far same hs route = away f v b far hs u (route_led s ok u v hs route) (subst (BranchOf s f u) same near)

  pub other_side : (f u v : ℕ) (a b : Option ℕ) → Domain s u → Domain s v → BranchOf s f u a → BranchOf s f v b → (a ≡ b → ⊥) → (d : ℕ) (k : Hop) → Through f k → SideOf s f a d k.entered → SideOf s f b k.reached k.left → HopThroughOf s u v f (Some k)
  other_side f u v a b in-u in-v near far differ d k through here there =
      let (hs, route) = route_exists s ok u v in-u in-v in
      let (n, first) = crossed f v b far a differ d k through here there hs u (route_led s ok u v hs route) near in
      (hs, n, route, first)

  -- where one of them does not exist there is no route with a hop
  pub missing_side : (f u v : ℕ) → (Domain s u × Domain s v → ⊥) → HopThroughOf s u v f None
  missing_side f u v none [] route k y at = none_some at
  missing_side f u v none (h ∷ hs) route k y at = absurd (none (walk_domains s ok u v h hs route.walk))

  -- a firewall with two sides exists
  pub sides_firewall : (f u v : ℕ) (a b : Option ℕ) → BranchOf s f u a → BranchOf s f v b → (a ≡ b → ⊥) → Firewall s f
  sides_firewall f u v None None near far differ = absurd (differ refl)
  sides_firewall f u v (Some e) b (i, l, r) far differ = joined_within s ok f e i (inr l)
  sides_firewall f u v None (Some e) near (i, l, r) differ = joined_within s ok f e i (inr l)
