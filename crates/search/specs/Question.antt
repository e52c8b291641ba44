-- What a look at a region tells.
use Rattle.std.specs.Prelude.{List}
use mathlib.Core.List.{Memᴰ}
use Rattle.kinds.specs.Words.{Inside, Disjoint}
use Rattle.kinds.specs.Related.{Related}
use Rattle.kinds.specs.declared.relation.Relation.TheVariants.{Crossing}
use Rattle.search.specs.declared.question.Look.{Look}
use Rattle.search.specs.declared.question.Look.TheVariants.{Drop, Found, Cut}

-- a region around x with nothing wished in it; or a wished value of x; or an entry that cuts x
abbrev pub Looked : {X V : Type 0} → (X → V → Type 0) → (V → Type 0) → List X → X → Look X V → Type 0
Looked holds wished entries x (Drop r) = Inside (holds x) (holds r) × Disjoint (holds r) wished
Looked holds wished entries x (Found v) = holds x v × wished v
Looked holds wished entries x (Cut e) = Memᴰ e entries × Related (holds x) (holds e) Crossing
