-- What the frames of a search keep.
use Rattle.std.proofs.Common.{◌≡◌, ℕ, zero, suc, ◌+◌, ◌<◌, ◌≤◌, ◌⊎◌, List, length, set, Some, Option, sym, refl, ap, ◌∙◌, subst, inl, inr, arith}
use mathlib.Core.List.{Memᴰ}
use Rattle.std.specs.List.{slice_get}
use Rattle.kinds.specs.Words.{Disjoint, Inside, Covered}
use Rattle.kinds.specs.Related.{Related}
use Rattle.kinds.specs.declared.relation.Relation.TheVariants.{Crossing}
use Rattle.search.specs.Cut.{Parting, Learned, Begun}
use Rattle.search.specs.Frames.{row_of, cut_of, KeptAt, IsKeptAt}
use Rattle.search.specs.declared.cut.Cut.{Cut}
use Rattle.search.specs.declared.engine.Focus as focus
use Rattle.search.specs.declared.engine.Focus.{Focus}
use Rattle.search.specs.declared.frames.Frame.{Frame}
use Rattle.search.proofs.Positions.{nth_set_same, nth_set_other}
use Rattle.search.proofs.Without.{Mem_without}

some_one : {Y : Type 0} {x y : Y} → Some x ≡ Some y → x ≡ y
some_one e = cc

-- a cut region reads back from its row
pub reads_row : {X W : Type 0} (plain : X → W) (region : W → Option X) → ((x : X) → region (plain x) ≡ Some x) → (c : Cut X) → cut_of region (row_of plain c) ≡ Some c
reads_row plain region rereads c = rw (rereads c.region, rereads c.barren, rereads c.joint) refl

module _ {X V W : Type 0} (holds : X → V → Type 0) (region : W → Option X) (wished : V → Type 0) (entries : List X) (target : X) where
  -- e cuts x: it shares a value with x, and does not hold all of it
  abbrev pub Crosses : X → X → Type 0
  Crosses x e = Related (holds x) (holds e) Crossing

  -- what is known of a cut region while its part x is looked at
  pub record Keeps (c : Cut X) (x : X) : Type 0 where
    pub part : Inside (holds x) (holds c.joint)
    pub within : Inside (holds c.joint) (holds c.region)
    pub covered : Covered (holds c.joint) (holds x) (holds c.barren)
    pub shared : (v : V) → holds c.region v → holds c.barren v → holds c.joint v
    pub entry : X
    pub member : Memᴰ entry entries
    pub cuts : Crosses c.region entry
    pub rest : (v : V) → holds c.region v → holds entry v → holds c.barren v
    pub uncut : Crosses x entry → ⊥
    pub known : Inside (holds c.joint) (holds x) ⊎ Disjoint (holds c.barren) wished

  -- the first n frames are those of regions cut one inside the other, the last one's part being x
  abbrev pub Stack : List (Frame W) → ℕ → X → Type 0
  Stack fs zero x = Inside (holds x) (holds target) × Inside (holds target) (holds x)
  Stack fs (suc n) x = (f : Frame W) × (c : Cut X) × (slice_get fs n ≡ Some f) × (cut_of region f ≡ Some c) × Keeps c x × Stack fs n c.region

  pub stack_inside : (fs : List (Frame W)) (n : ℕ) (x : X) → Stack fs n x → Inside (holds x) (holds target)
  stack_inside fs zero x s v h = s.0 v h
  stack_inside fs (suc n) x (f, c, at, reads, keeps, below) v h = stack_inside fs n c.region below v (keeps.within v (keeps.part v h))

  pub stack_set : (fs : List (Frame W)) (n i : ℕ) (f : Frame W) (x : X) → n ≤ i → Stack fs n x → Stack (set fs i f) n x
  stack_set fs zero i f x le s = s
  stack_set fs (suc n) i f x le (g, c, at, reads, keeps, below) =
      (g, c, nth_set_other fs i n f (λ e. let z : n < n = omega arith in omega arith) ∙ at, reads, keeps, stack_set fs n i f c.region (omega arith) below)

  -- room for one frame for each entry that may still cut
  pub record Room (n : ℕ) (x : X) : Type 0 where
    pub left : List X
    pub few : n + length left ≤ length entries
    pub has : (e : X) → Memᴰ e entries → Crosses x e → Memᴰ e left

  room_less : (n : ℕ) (x : X) (c : Cut X) → Keeps c x → Room n c.region → Room (suc n) x
  room_less n x c k r =
      let without = Mem_without k.entry r.left (r.has k.entry k.member k.cuts) in
      record {
        left = without.0;
        few = let shorter = without.1 in let few = r.few in omega arith;
        has = λ e m cross.
            without.2 e (r.has e m ((cross.0.0, k.within cross.0.0 (k.part cross.0.0 cross.0.1), cross.0.2), λ i. cross.1 (λ v h. i v (k.within v (k.part v h)))))
            (λ same. k.uncut (subst (Crosses x) same cross));
      }

  stack_room : (fs : List (Frame W)) (n : ℕ) (x : X) → Stack fs n x → Room n x
  stack_room fs zero x s = record { left = entries; few = omega arith; has = λ e m _. m }
  stack_room fs (suc n) x (f, c, at, reads, keeps, below) = room_less n x c keeps (stack_room fs n c.region below)

  -- an entry that cuts finds a frame
  pub room_one : (fs : List (Frame W)) (n : ℕ) (x e : X) → Stack fs n x → Memᴰ e entries → Crosses x e → n < length entries
  room_one fs n x e s m c =
      let room = stack_room fs n x s in
      let without = Mem_without e room.left (room.has e m c) in
      let few = room.few in
      let shorter = without.1 in
      omega arith

  -- a region is cut
  pub keeps_begun : (c : Cut X) (x e : X) → Begun holds x (holds e) c → Memᴰ e entries → Crosses x e → Keeps c c.joint
  keeps_begun c x e b m cross = record {
    part = λ v h. h;
    within = λ v h. subst (λ y. holds y v) (sym b.region) (b.common.left v h);
    covered = λ v h. inl h;
    shared = λ v h k. subst (λ y. holds y v) b.same k;
    entry = e;
    member = m;
    cuts = subst (λ y. Crosses y e) (sym b.region) cross;
    rest = λ v h k. subst (λ y. holds y v) (sym b.same) (b.common.all v (subst (λ y. holds y v) b.region h) k);
    uncut = λ k. k.1 b.common.right;
    known = inl (λ v h. h);
  }

  -- nothing is wished in what is learned
  pub learned_barren : (c : Cut X) (x : X) (r s : V → Type 0) → Keeps c x → Inside (holds x) r → Disjoint r wished → Learned (holds c.joint) r (holds c.barren) s → Disjoint s wished
  learned_barren c x r s k inside barren l v h = elim k.known [
    | inl all ↦ barren v (l.known (λ u i. inside u (all u i)) v h)
    | inr none ↦ elim (l.within v h) [ inl a ↦ barren v a | inr b ↦ none v b ]
  ]

  -- what is joined lies in a region around the part, and in what is barren
  pub covered_around : (c : Cut X) (x : X) (r : V → Type 0) → Keeps c x → Inside (holds x) r → Covered (holds c.joint) r (holds c.barren)
  covered_around c x r k inside v h = elim (k.covered v h) [ inl a ↦ inl (inside v a) | inr b ↦ inr b ]

  -- the next part is looked at
  pub keeps_rest : (c d : Cut X) (x y : X) (r : V → Type 0) → Keeps c x → Inside (holds x) r → Disjoint r wished → d.region ≡ c.region → Learned (holds c.joint) r (holds c.barren) (holds d.barren) → Parting (holds c.region) (holds d.barren) (holds d.joint) (holds y) → Keeps d y
  keeps_rest c d x y r k inside barren same l p = record {
    part = p.part;
    within = λ v h. subst (λ z. holds z v) (sym same) (p.within v h);
    covered = p.covered;
    shared = λ v h i. p.joint v (subst (λ z. holds z v) same h) i;
    entry = k.entry;
    member = k.member;
    cuts = subst (λ z. Crosses z k.entry) (sym same) k.cuts;
    rest = λ v h i. let h' = subst (λ z. holds z v) same h in l.around v (k.shared v h' (k.rest v h' i));
    uncut = λ cross.
        let v = cross.0.0 in
        let h = p.within v (p.part v cross.0.1) in
        p.apart v cross.0.1 (l.around v (k.shared v h (k.rest v h cross.0.2)));
    known = inr (learned_barren c x r (holds d.barren) k inside barren l);
  }

  -- what is known while the search goes on
  abbrev pub Held : List (Frame W) → ℕ → Focus X → Type 0
  Held fs n (focus.TheVariants.Open x) = Stack fs n x
  Held fs n (focus.TheVariants.Barren r) = (x : X) × Stack fs n x × Inside (holds x) (holds r) × Disjoint (holds r) wished

  module _ (fs : List (Frame W)) (n : ℕ) where
    pub held_cut : (d : ℕ) (x e : X) (c : Cut X) (f : Frame W) → d ≡ suc n → Stack fs n x → Memᴰ e entries → Crosses x e → Begun holds x (holds e) c → cut_of region f ≡ Some c → n < length fs → Stack (set fs n f) d c.joint
    held_cut d x e c f next s m cross b reads lt =
        subst (λ k. Stack (set fs n f) k c.joint) (sym next)
        (f, c, nth_set_same fs n f lt, reads, keeps_begun c x e b m cross, subst (Stack (set fs n f) n) (sym b.region) (stack_set fs n n f x (omega arith) s))

    pub held_rest : (k : ℕ) (x : X) (r : V → Type 0) (g : Frame W) (c d : Cut X) (y : X) → Keeps c x → Stack fs n c.region → Inside (holds x) r → Disjoint r wished → d.region ≡ c.region → Learned (holds c.joint) r (holds c.barren) (holds d.barren) → Parting (holds c.region) (holds d.barren) (holds d.joint) (holds y) → cut_of region g ≡ Some d → n < length fs → k ≡ suc n → Stack (set fs n g) k y
    held_rest k x r g c d y keeps below inside barren same l p reads lt next =
        subst (λ j. Stack (set fs n g) j y) (sym next)
        (g, d, nth_set_same fs n g lt, reads, keeps_rest c d x y r keeps inside barren same l p, subst (Stack (set fs n g) n) (sym same) (stack_set fs n n g c.region (omega arith) below))

    pub held_open : (f : Focus X) (x : X) → f ≡ focus.TheVariants.Open x → Held fs n f → Stack fs n x
    held_open f x e h = subst (Held fs n) e h

    pub held_barren : (f : Focus X) (r : X) → f ≡ focus.TheVariants.Barren r → Held fs n f → (x : X) × Stack fs n x × Inside (holds x) (holds r) × Disjoint (holds r) wished
    held_barren f r e h = subst (Held fs n) e h

    -- what stands at the top frame, and what is below
    pub top_there : (d : ℕ) (x : X) → d ≡ suc n → Stack fs d x → KeptAt region fs n
    top_there d x e s = let (f, c, at, reads, keeps, below) = subst (λ k. Stack fs k x) e s in (c, (f, at, reads))

    pub top_known : (d : ℕ) (x : X) (c : Cut X) → d ≡ suc n → IsKeptAt region fs n c → Stack fs d x → Keeps c x × Stack fs n c.region
    top_known d x c e (g, there, read) s =
        let (f, b, at, reads, keeps, below) = subst (λ k. Stack fs k x) e s in
        let alike : g ≡ f = some_one (sym there ∙ at) in
        let same : b ≡ c = some_one (sym reads ∙ ap (cut_of region) (sym alike) ∙ read) in
        (subst (λ a. Keeps a x) same keeps, subst (λ (a : Cut X). Stack fs n a.region) same below)

    pub held_whole : (x : X) (r : V → Type 0) (c : Cut X) (s : X) → Keeps c x → Stack fs n c.region → Inside (holds x) r → Disjoint r wished → Learned (holds c.joint) r (holds c.barren) (holds s) → Inside (holds c.region) (holds s) → Held fs n (focus.TheVariants.Barren s)
    held_whole x r c s keeps below inside barren l all = (c.region, below, all, learned_barren c x r (holds s) keeps inside barren l)

  pub target_barren : (fs : List (Frame W)) (n : ℕ) (x : X) (r : V → Type 0) → n ≡ 0 → Stack fs n x → Inside (holds x) r → Disjoint r wished → Disjoint (holds target) wished
  target_barren fs n x r e s inside barren v h = barren v (inside v ((subst (λ k. Stack fs k x) e s).1 v h))
