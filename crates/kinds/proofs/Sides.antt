-- Two regions side by side, from what is known of each side.
use Rattle.std.proofs.Common.{inl, inr}
use Rattle.kinds.specs.Words.{Disjoint, Inside, Share, Common, Parted, Inhabited, Covered}
use Rattle.kinds.specs.Related.{Related}
use Rattle.kinds.specs.declared.pair.Pair.{Pair}
use Rattle.kinds.specs.declared.relation.Relation as relation
use Rattle.kinds.specs.declared.relation.Relation.{Relation}
use Rattle.kinds.proofs.Relations.{share_inside}

-- the pairs with a left value of p and a right value of q
abbrev pub Both : {X Y : Type 0} → (X → Type 0) → (Y → Type 0) → Pair X Y → Type 0
Both p q v = p v.left × q v.right

module _ {X Y : Type 0} (p q : X → Type 0) (p' q' : Y → Type 0) where
  pub disjoint_left : Disjoint p q → Disjoint (Both p p') (Both q q')
  disjoint_left d v h k = d v.left h.0 k.0

  pub disjoint_right : Disjoint p' q' → Disjoint (Both p p') (Both q q')
  disjoint_right d v h k = d v.right h.1 k.1

  pub inside_both : Inside p q → Inside p' q' → Inside (Both p p') (Both q q')
  inside_both i j v h = (i v.left h.0, j v.right h.1)

  pub common_both : (m : X → Type 0) (m' : Y → Type 0) → Common p q m → Common p' q' m' → Common (Both p p') (Both q q') (Both m m')
  common_both m m' c d = record {
    left = λ v h. (c.left v.left h.0, d.left v.right h.1);
    right = λ v h. (c.right v.left h.0, d.right v.right h.1);
    all = λ v h k. (c.all v.left h.0 k.0, d.all v.right h.1 k.1);
  }

  -- where two pairs share a value, each side does
  pub shares : (m : X → Type 0) (m' : Y → Type 0) → Common (Both p p') (Both q q') (Both m m') → Inhabited m → Inhabited m' → Share p q × Share p' q'
  shares m m' c i j =
      let v : Pair X Y = record { left = i.0; right = j.0 } in
      let h = c.left v (i.1, j.1) in
      let k = c.right v (i.1, j.1) in
      ((i.0, h.0, k.0), (j.0, h.1, k.1))

  share_both : (a : X → Type 0) (b : Y → Type 0) → Share a q → Share b q' → Share (Both a b) (Both q q')
  share_both a b s t = (record { left = s.0; right = t.0 }, (s.1, t.1), (s.2, t.2))

  -- the left side is cut
  pub parted_left : (a b : X → Type 0) → Parted p q a b → Share p' q' → Parted (Both p p') (Both q q') (Both a p') (Both b p')
  parted_left a b c s = record {
    first = λ v h. (c.first v.left h.0, h.1);
    second = λ v h. (c.second v.left h.0, h.1);
    all = λ v h. elim (c.all v.left h.0) [ inl x ↦ inl (x, h.1) | inr x ↦ inr (x, h.1) ];
    apart = λ v h k. c.apart v.left h.0 k.0;
    one = elim c.one [
      | inl o ↦ inl (share_both a p' o.0 s, λ v h k. o.1 v.left h.0 k.0)
      | inr o ↦ inr (λ v h k. o.0 v.left h.0 k.0, share_both b p' o.1 s)
    ];
  }

  -- the right side is cut
  pub parted_right : (a b : Y → Type 0) → Parted p' q' a b → Share p q → Parted (Both p p') (Both q q') (Both p a) (Both p b)
  parted_right a b c s = record {
    first = λ v h. (h.0, c.first v.right h.1);
    second = λ v h. (h.0, c.second v.right h.1);
    all = λ v h. elim (c.all v.right h.1) [ inl x ↦ inl (h.0, x) | inr x ↦ inr (h.0, x) ];
    apart = λ v h k. c.apart v.right h.1 k.1;
    one = elim c.one [
      | inl o ↦ inl (share_both p a s o.0, λ v h k. o.1 v.right h.1 k.1)
      | inr o ↦ inr (λ v h k. o.0 v.right h.1 k.1, share_both p b s o.1)
    ];
  }

  -- what each side is to its own other side, from what the pairs are to each other
  pub inside_left : Inhabited p' → Inside (Both p p') (Both q q') → Inside p q
  inside_left o i v h = (i (record { left = v; right = o.0 }) (h, o.1)).0

  pub inside_right : Inhabited p → Inside (Both p p') (Both q q') → Inside p' q'
  inside_right o i v h = (i (record { left = o.0; right = v }) (o.1, h)).1

  pub apart_left : Share p' q' → Disjoint (Both p p') (Both q q') → Disjoint p q
  apart_left s d v h k = d (record { left = v; right = s.0 }) (h, s.1) (k, s.2)

  -- pairs share values where both sides do, and one lies inside where both sides do
  pub related_right : Inhabited p → Inside p q → (r : Relation) → Related p' q' r → Related (Both p p') (Both q q') r
  related_right o i relation.TheVariants.Apart told = disjoint_right told
  related_right o i relation.TheVariants.Inside told = inside_both i told
  related_right o i relation.TheVariants.Crossing told = (share_both p p' (share_inside p q o i) told.0, λ j. told.1 (inside_right o j))

  pub crossing_left : Inhabited p' → Share p q × (Inside p q → ⊥) → Share p' q' → Related (Both p p') (Both q q') relation.TheVariants.Crossing
  crossing_left o told s = (share_both p p' told.0 s, λ j. told.1 (inside_left o j))

module _ {X Y : Type 0} (p x y : X → Type 0) (p' x' y' : Y → Type 0) where
  -- where two pairs hold a third between them, so do their sides
  pub covered_right : Inhabited p → Covered (Both p p') (Both x x') (Both y y') → Covered p' x' y'
  covered_right o c v h = elim (c (record { left = o.0; right = v }) (o.1, h)) [ inl a ↦ inl a.1 | inr b ↦ inr b.1 ]

  pub covered_left : Inhabited p' → Covered (Both p p') (Both x x') (Both y y') → Covered p x y
  covered_left o c v h = elim (c (record { left = v; right = o.0 }) (h, o.1)) [ inl a ↦ inl a.0 | inr b ↦ inr b.0 ]
