-- Regions that share a value.
use Rattle.std.proofs.Common.{◌⊎◌, inl, inr}
use Rattle.kinds.specs.Words.{Disjoint, Inside, Share, Common, Inhabited}

module _ {V : Type 0} (p q : V → Type 0) where
  pub common_swap : (m : V → Type 0) → Common p q m → Common q p m
  common_swap m c = record { left = c.right; right = c.left; all = λ v a b. c.all v b a }

  -- a region of common values holds one
  pub share_common : (m : V → Type 0) → Common p q m → Inhabited m → Share p q
  share_common m c i = (i.0, c.left i.0 i.1, c.right i.0 i.1)

  -- what split says by nothing, where a value is shared
  pub inside_since : Disjoint p q ⊎ Inside p q → Share p q → Inside p q
  inside_since (inl d) s = absurd (d s.0 s.1 s.2)
  inside_since (inr i) s = i
