-- Why a search ends: what is still to be looked at gets less, or else the frames in use change one way only.
use Rattle.std.proofs.Common.{◌≡◌, ℕ, zero, suc, ◌+◌, ◌-◌, ◌*◌, ◌<◌, ◌≤◌, List, length, set, Some, None, Option, sym, refl, ap, ap₂, ◌∙◌, subst, arith}
use Rattle.std.specs.List.{slice_get}
use Rattle.kinds.specs.Words.{Inside}
use Rattle.kinds.specs.Made.{dec_both}
use Rattle.search.specs.Cut.{Parting, Learned, Begun}
use Rattle.search.specs.Frames.{cut_of, IsKeptAt}
use Rattle.search.specs.declared.cut.Cut.{Cut}
use Rattle.search.specs.declared.engine.Focus as focus
use Rattle.search.specs.declared.engine.Focus.{Focus}
use Rattle.search.specs.declared.frames.Frame.{Frame}
use Rattle.search.proofs.Positions.{nth_set_same, nth_set_other}
use Rattle.search.proofs.Sizes.{size, size_apart}

-- a smaller first number, or the same and a smaller second one below b
pub less_first : (m n i j b : ℕ) → m < n → i < b → m * b + i < n * b + j
less_first m n i j b lt below =
    let gap : n ≡ m + 1 + (n - m - 1) = omega arith in
    let times : n * b ≡ (m + 1 + (n - m - 1)) * b = ap (λ k. k * b) gap in
    let split : (m + 1 + (n - m - 1)) * b ≡ m * b + b + (n - m - 1) * b = Prim.grind arith in
    omega arith

pub less_second : (m n i j b : ℕ) → m ≤ n → i < j → m * b + i < n * b + j
less_second m n i j b le lt =
    let gap : n ≡ m + (n - m) = omega arith in
    let times : n * b ≡ (m + (n - m)) * b = ap (λ k. k * b) gap in
    let split : (m + (n - m)) * b ≡ m * b + (n - m) * b = Prim.grind arith in
    omega arith

pub not_dec : {P : Type 0} → Dec P → Dec (P → ⊥)
not_dec (yes h) = no (λ n. n h)
not_dec (no n) = yes n

module _ {X V W : Type 0} (holds : X → V → Type 0) (region : W → Option X) (decided : (x : X) (v : V) → Dec (holds x v)) (vs : List V) where
  -- how many listed values x holds
  abbrev pub count : X → ℕ
  count x = size (holds x) (decided x) vs

  -- the values of a cut region that are not joined yet
  abbrev pub Apart : Cut X → V → Type 0
  Apart c v = holds c.region v × (holds c.joint v → ⊥)

  pub apart_dec : (c : Cut X) (v : V) → Dec (Apart c v)
  apart_dec c v = dec_both (decided c.region v) (not_dec (decided c.joint v))

  abbrev pub left : Option (Cut X) → ℕ
  left None = 0
  left (Some c) = size (Apart c) (apart_dec c) vs

  abbrev pub left_at : Option (Frame W) → ℕ
  left_at None = 0
  left_at (Some f) = left (cut_of region f)

  -- what the first n frames leave to be looked at
  abbrev pub weight : List (Frame W) → ℕ → ℕ
  weight fs zero = 0
  weight fs (suc n) = left_at (slice_get fs n) + weight fs n

  pub weight_set : (fs : List (Frame W)) (n i : ℕ) (f : Frame W) → n ≤ i → weight (set fs i f) n ≡ weight fs n
  weight_set fs zero i f le = refl
  weight_set fs (suc n) i f le = ap₂ (λ a b. left_at a + b) (nth_set_other fs i n f (λ e. let z : n < n = omega arith in omega arith)) (weight_set fs n i f (omega arith))

  pub weight_top : (fs : List (Frame W)) (n : ℕ) (f : Frame W) (c : Cut X) → slice_get fs n ≡ Some f → cut_of region f ≡ Some c → weight fs (suc n) ≡ left (Some c) + weight fs n
  weight_top fs n f c at reads = ap (λ k. k + weight fs n) (ap left_at at ∙ ap left reads)

  -- what is looked at next
  abbrev pub ahead : Focus X → ℕ
  ahead (focus.TheVariants.Open x) = count x
  ahead (focus.TheVariants.Barren r) = 0

  -- how many turns are left before something is settled, where the frames are `most`
  abbrev pub turns : ℕ → ℕ → Focus X → ℕ
  turns most n (focus.TheVariants.Open x) = most - n
  turns most n (focus.TheVariants.Barren r) = most + 1 + n

  abbrev pub measure : ℕ → List (Frame W) → ℕ → Focus X → ℕ
  measure most fs n f = (weight fs n + ahead f) * (2 * most + 2) + turns most n f

  -- a region is cut: as much is left, in one frame more
  cut_left : (x : X) (e : V → Type 0) (c : Cut X) → Begun holds x e c → left (Some c) + count c.joint ≤ count x
  cut_left x e c b =
      let same = b.region in
      size_apart (holds x) (Apart c) (holds c.joint) (decided x) (apart_dec c) (decided c.joint)
      (λ v h. subst (λ y. holds y v) same h.0) b.common.left (λ v h k. h.1 k) vs

  -- of what was not joined, the next part is looked at
  rest_left : (c d : Cut X) (y : X) (r : V → Type 0) → Inside (holds c.joint) (holds c.region) → d.region ≡ c.region → Learned (holds c.joint) r (holds c.barren) (holds d.barren) → Parting (holds c.region) (holds d.barren) (holds d.joint) (holds y) → left (Some d) + count y ≤ left (Some c)
  rest_left c d y r within same l p =
      size_apart (Apart c) (Apart d) (holds y) (apart_dec c) (apart_dec d) (decided y)
      (λ v h. let i = subst (λ z. holds z v) same h.0 in (i, λ k. h.1 (p.joint v i (l.around v k))))
      (λ v h. (p.within v (p.part v h), λ k. p.apart v h (l.around v k)))
      (λ v h k. h.1 (p.part v k)) vs

  module _ (most : ℕ) (fs : List (Frame W)) (n : ℕ) where
    pub smaller_drop : (x r : X) → n ≤ most → 0 < count x → measure most fs n (focus.TheVariants.Barren r) < measure most fs n (focus.TheVariants.Open x)
    smaller_drop x r le some = less_first (weight fs n + 0) (weight fs n + count x) (most + 1 + n) (most - n) (2 * most + 2) (omega arith) (omega arith)

    cut_measure : (x : X) (e : V → Type 0) (c : Cut X) (f : Frame W) → Begun holds x e c → cut_of region f ≡ Some c → n < length fs → n < most → measure most (set fs n f) (suc n) (focus.TheVariants.Open c.joint) < measure most fs n (focus.TheVariants.Open x)
    cut_measure x e c f b reads lt less =
        let top = weight_top (set fs n f) n f c (nth_set_same fs n f lt) reads in
        let below = weight_set fs n n f (omega arith) in
        let cut = cut_left x e c b in
        less_second (weight (set fs n f) (suc n) + count c.joint) (weight fs n + count x) (most - suc n) (most - n) (2 * most + 2) (omega arith) (omega arith)

    pub smaller_cut : (d : ℕ) (x : X) (e : V → Type 0) (c : Cut X) (f : Frame W) → Begun holds x e c → cut_of region f ≡ Some c → n < length fs → n < most → d ≡ suc n → measure most (set fs n f) d (focus.TheVariants.Open c.joint) < measure most fs n (focus.TheVariants.Open x)
    smaller_cut d x e c f b reads lt less next =
        subst (λ k. measure most (set fs n f) k (focus.TheVariants.Open c.joint) < measure most fs n (focus.TheVariants.Open x)) (sym next)
        (cut_measure x e c f b reads lt less)

    whole_measure : (r s : X) → measure most fs n (focus.TheVariants.Barren s) < measure most fs (suc n) (focus.TheVariants.Barren r)
    whole_measure r s = less_second (weight fs n + 0) (weight fs (suc n) + 0) (most + 1 + n) (most + 1 + suc n) (2 * most + 2) (omega arith) (omega arith)

    pub smaller_whole : (d : ℕ) (r s : X) → d ≡ suc n → measure most fs n (focus.TheVariants.Barren s) < measure most fs d (focus.TheVariants.Barren r)
    smaller_whole d r s next = subst (λ k. measure most fs n (focus.TheVariants.Barren s) < measure most fs k (focus.TheVariants.Barren r)) (sym next) (whole_measure r s)

    rest_measure : (c d : Cut X) (y s : X) (r : V → Type 0) (f g : Frame W) → slice_get fs n ≡ Some f → cut_of region f ≡ Some c → Inside (holds c.joint) (holds c.region) → d.region ≡ c.region → Learned (holds c.joint) r (holds c.barren) (holds d.barren) → Parting (holds c.region) (holds d.barren) (holds d.joint) (holds y) → cut_of region g ≡ Some d → n < length fs → measure most (set fs n g) (suc n) (focus.TheVariants.Open y) < measure most fs (suc n) (focus.TheVariants.Barren s)
    rest_measure c d y s r f g at reads within same l p now lt =
        let before = weight_top fs n f c at reads in
        let after = weight_top (set fs n g) n g d (nth_set_same fs n g lt) now in
        let below = weight_set fs n n g (omega arith) in
        let rest = rest_left c d y r within same l p in
        less_second (weight (set fs n g) (suc n) + count y) (weight fs (suc n) + 0) (most - suc n) (most + 1 + suc n) (2 * most + 2) (omega arith) (omega arith)

    pub smaller_rest : (k : ℕ) (c d : Cut X) (y s : X) (r : V → Type 0) (g : Frame W) → IsKeptAt region fs n c → Inside (holds c.joint) (holds c.region) → d.region ≡ c.region → Learned (holds c.joint) r (holds c.barren) (holds d.barren) → Parting (holds c.region) (holds d.barren) (holds d.joint) (holds y) → cut_of region g ≡ Some d → n < length fs → k ≡ suc n → measure most (set fs n g) k (focus.TheVariants.Open y) < measure most fs k (focus.TheVariants.Barren s)
    smaller_rest k c d y s r g (f, at, reads) within same l p now lt next =
        subst (λ j. measure most (set fs n g) j (focus.TheVariants.Open y) < measure most fs j (focus.TheVariants.Barren s)) (sym next)
        (rest_measure c d y s r f g at reads within same l p now lt)
