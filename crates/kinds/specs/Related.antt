-- How two regions lie to each other. A region is given here by what it holds.
use Rattle.kinds.specs.Words.{Disjoint, Inside, Share}
use Rattle.kinds.specs.declared.relation.Relation as relation
use Rattle.kinds.specs.declared.relation.Relation.{Relation}

-- how p lies to q
abbrev pub Related : {V : Type 0} → (V → Type 0) → (V → Type 0) → Relation → Type 0
Related p q relation.TheVariants.Apart = Disjoint p q
Related p q relation.TheVariants.Inside = Inside p q
Related p q relation.TheVariants.Crossing = Share p q × (Inside p q → ⊥)
