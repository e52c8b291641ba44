-- Words about the values that regions hold. A region is given here by what it holds.
use Rattle.std.specs.Prelude.{◌⊎◌, List, Option, MatchOption}
use mathlib.Core.List.{Memᴰ}

-- p and q share no value
abbrev pub Disjoint : {V : Type 0} → (V → Type 0) → (V → Type 0) → Type 0
Disjoint {V} p q = (v : V) → p v → q v → ⊥

-- p and q share a value
abbrev pub Share : {V : Type 0} → (V → Type 0) → (V → Type 0) → Type 0
Share {V} p q = (v : V) × p v × q v

-- p lies inside q
abbrev pub Inside : {V : Type 0} → (V → Type 0) → (V → Type 0) → Type 0
Inside {V} p q = (v : V) → p v → q v

-- x and y hold all of p between them
abbrev pub Covered : {V : Type 0} → (V → Type 0) → (V → Type 0) → (V → Type 0) → Type 0
Covered {V} p x y = (v : V) → p v → x v ⊎ y v

-- p and q have the same values
abbrev pub Exactly : {V : Type 0} → (V → Type 0) → (V → Type 0) → Type 0
Exactly p q = Inside p q × Inside q p

-- m holds exactly what both p and q hold
pub record Common {V : Type 0} (p q m : V → Type 0) : Type 0 where
  pub left : Inside m p
  pub right : Inside m q
  pub all : (v : V) → p v → q v → m v

-- a and b are p cut along q: disjoint, together exactly p, and one of them, not both, meets q
pub record Parted {V : Type 0} (p q a b : V → Type 0) : Type 0 where
  pub first : Inside a p
  pub second : Inside b p
  pub all : (v : V) → p v → a v ⊎ b v
  pub apart : Disjoint a b
  pub one : (Share a q × Disjoint b q) ⊎ (Disjoint a q × Share b q)

-- what meet answers: nothing exactly where p and q share no value, else the region of their common values
abbrev pub MeetOf : {X V : Type 0} → (X → V → Type 0) → (V → Type 0) → (V → Type 0) → Option X → Type 0
MeetOf holds p q r = MatchOption r (Disjoint p q) (λ m. Common p q (holds m))

-- what split answers: nothing exactly where p and q share no value or p lies inside q, else p's two parts
abbrev pub SplitOf : {X V : Type 0} → (X → V → Type 0) → (V → Type 0) → (V → Type 0) → Option (X × X) → Type 0
SplitOf holds p q r = MatchOption r (Disjoint p q ⊎ Inside p q) (λ ab. Parted p q (holds ab.0) (holds ab.1))

-- what is answered where r may lie in both p and q: nothing exactly where it does not, else the region of their common values
abbrev pub CommonAround : {X V : Type 0} → (X → V → Type 0) → (V → Type 0) → (V → Type 0) → (V → Type 0) → Option X → Type 0
CommonAround holds r p q o = MatchOption o (Inside r p × Inside r q → ⊥) (λ m. Inside r p × Inside r q × Common p q (holds m))

-- there is a value in p
abbrev pub Inhabited : {V : Type 0} → (V → Type 0) → Type 0
Inhabited {V} p = (v : V) × p v

-- some list has every value of p
abbrev pub Finite : {V : Type 0} → (V → Type 0) → Type 0
Finite {V} p = (vs : List V) × ((v : V) → p v → Memᴰ v vs)

-- of every value it can be told whether p has it
abbrev pub Decided : {V : Type 0} → (V → Type 0) → Type 0
Decided {V} p = (v : V) → Dec (p v)
