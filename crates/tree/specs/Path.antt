-- The route that a table finds, whole or by the hop.
use Rattle.std.specs.Prelude.{◌≡◌, ℕ, List, ◌∷◌, Option, MatchOption, ◌≢◌}
use Rattle.search.specs.First.{First, Nowhere}
use Rattle.tables.specs.FixedVec.{used}
use Rattle.model.specs.Shape.{Shape, Domain}
use Rattle.model.specs.Shape as Shapes
use Rattle.model.specs.declared.path.Hop.{Hop}
use Rattle.tree.specs.Table.{shape_of}
use Rattle.tree.specs.declared.table.TreeTable.{TreeTable}
use Rattle.tree.specs.declared.path.Route.{Route}

abbrev pub hops_of : Route → List Hop
hops_of r = used r.hops

-- the route from u to v, nothing where one of them does not exist
abbrev pub RouteOf : TreeTable → ℕ → ℕ → Option Route → Type 0
RouteOf t u v r = MatchOption r (Domain (shape_of t) u × Domain (shape_of t) v → ⊥) (λ p. Shapes.Route (shape_of t) u v (hops_of p))

-- the first hop of the route from u to v, nothing where they are one or one of them does not exist
abbrev pub NextHopOf : Shape → ℕ → ℕ → Option Hop → Type 0
NextHopOf s u v r = MatchOption r (Domain s u × Domain s v × (u ≢ v) → ⊥) (λ h. (hs : List Hop) × Shapes.Route s u v (h ∷ hs))

-- the hop enters firewall f
abbrev pub Through : ℕ → Hop → Type 0
Through f h = h.firewall ≡ f

-- the hop of the route from u to v that enters firewall f, nothing where none does or there is no route
abbrev pub HopThroughOf : Shape → ℕ → ℕ → ℕ → Option Hop → Type 0
HopThroughOf s u v f r = MatchOption r ((hs : List Hop) → Shapes.Route s u v hs → Nowhere (Through f) hs) (λ h. (hs : List Hop) × (k : ℕ) × Shapes.Route s u v hs × First (Through f) hs k h)
