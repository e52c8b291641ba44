-- Where a domain is found from further up.
use Rattle.std.specs.Prelude.{◌≡◌, ℕ, Option, None, Some, MatchOption}
use Rattle.model.specs.Shape.{Shape, Hangs, Lies}
use Rattle.model.specs.Subtree.{Sub}

-- the domain right below f that has d in its subtree, nothing where none has
abbrev pub BranchOf : Shape → ℕ → ℕ → Option ℕ → Type 0
BranchOf s f d r = MatchOption r ((e i : ℕ) → Lies s e f i → Sub s e d → ⊥) (λ e. (i : ℕ) × Lies s e f i × Sub s e d)

-- the domain below a firewall of u that has d in its subtree, nothing where d is u or outside
abbrev pub ChildOf : Shape → ℕ → ℕ → Option ℕ → Type 0
ChildOf s u d r = MatchOption r (Sub s u d → d ≡ u) (λ e. (f : ℕ) × (i : ℕ) × (j : ℕ) × Lies s e f i × Hangs s f u j × Sub s e d)

-- d is the domain that f is joined to, by its interface i, on one side: the branch, or, where it is none, the domain above
abbrev pub SideOf : Shape → ℕ → Option ℕ → ℕ → ℕ → Type 0
SideOf s f None d i = Hangs s f d i
SideOf s f (Some e) d i = (d ≡ e) × Lies s e f i
