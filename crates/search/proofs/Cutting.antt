-- How a region is cut along another, and what is learned of it.
use Rattle.std.proofs.Common.{◌<◌, ◌⊎◌, List, inl, inr, arith}
use mathlib.Core.List.{Memᴰ}
use Rattle.kinds.specs.Words.{Disjoint, Inside, Share, Parted, Inhabited, Covered}
use Rattle.kinds.specs.Related.{Related}
use Rattle.kinds.specs.declared.relation.Relation.TheVariants.{Crossing}
use Rattle.search.specs.Cut.{Kept, Parting, Learned}
use Rattle.search.proofs.Sizes.{size, size_some, size_apart}

module _ {V : Type 0} (p w : V → Type 0) where
  -- what is left of p to be cut along w: all of p that w holds lies in it
  pub record Joint (g : V → Type 0) : Type 0 where
    pub within : Inside g p
    pub crossing : Related g w Crossing
    pub shared : (v : V) → p v → w v → g v

  pub joint_first : Related p w Crossing → Joint p
  joint_first c = record { within = λ v h. h; crossing = c; shared = λ v h k. h }

  module _ (g a b : V → Type 0) (j : Joint g) (k : Kept g w a b) where
    -- what of g is in w is in a
    kept_shared : (v : V) → g v → w v → a v
    kept_shared v h i = elim (k.all v h) [ inl x ↦ x | inr y ↦ absurd (k.clear v y i) ]

    -- a lies inside w: the last cut
    pub parting : Inside a w → Parting p w g b
    parting inside = record {
      part = k.second;
      within = j.within;
      covered = λ v h. elim (k.all v h) [ inl x ↦ inr (inside v x) | inr y ↦ inl y ];
      joint = j.shared;
      apart = k.clear;
    }

    -- else a is cut next
    pub joint_next : (Inside a w → ⊥) → Joint a
    joint_next not = record {
      within = λ v h. j.within v (k.first v h);
      crossing = (k.share, not);
      shared = λ v h i. kept_shared v (j.shared v h i) i;
    }

    pub kept_less : (dg : (v : V) → Dec (g v)) (da : (v : V) → Dec (a v)) (db : (v : V) → Dec (b v)) → Inhabited b → (vs : List V) → ((v : V) → p v → Memᴰ v vs) → size a da vs < size g dg vs
    kept_less dg da db o vs listed =
        let sum = size_apart g a b dg da db k.first k.second k.apart vs in
        let some = size_some b db vs o.0 (listed o.0 (j.within o.0 (k.second o.0 o.1))) o.1 in
        omega arith

module _ {V : Type 0} (g w : V → Type 0) where
  -- of the parts of a split, the one that shares a value with w is kept
  module _ (a b : V → Type 0) (c : Parted g w a b) where
    pub kept_first : Share a w → Kept g w a b
    kept_first s = record {
      first = c.first;
      second = c.second;
      all = c.all;
      apart = c.apart;
      share = s;
      clear = elim c.one [ inl o ↦ o.1 | inr o ↦ absurd (o.0 s.0 s.1 s.2) ];
    }

    pub kept_second : (Share a w → ⊥) → Kept g w b a
    kept_second not = record {
      first = c.second;
      second = c.first;
      all = λ v h. elim (c.all v h) [ inl x ↦ inr x | inr y ↦ inl y ];
      apart = λ v h k. c.apart v k h;
      share = elim c.one [ inl o ↦ absurd (not o.0) | inr o ↦ o.1 ];
      clear = λ v h k. not (v, h, k);
    }

  -- a region that shares a value with w and does not lie in it can be split
  pub crossing_split : Related g w Crossing → Disjoint g w ⊎ Inside g w → ⊥
  crossing_split c (inl d) = d c.0.0 c.0.1 c.0.2
  crossing_split c (inr i) = c.1 i

module _ {V : Type 0} (g r w : V → Type 0) where
  pub learned_known : Inside g r → Learned g r w r
  learned_known i = record { around = i; within = λ v h. inl h; known = λ _ v h. h }

  pub learned_resolved : (s : V → Type 0) → (Inside g r → ⊥) → Inside g s → Covered s r w → Learned g r w s
  learned_resolved s not around within = record { around = around; within = within; known = λ i. absurd (not i) }
