-- Lists of regions with outcomes: which entry decides a value, and what is wished of it.
use Rattle.std.specs.Prelude.{◌≡◌, ℕ, List, Some, None, Option, MatchOption}
use Rattle.search.specs.First.{First, Nowhere}
use Rattle.search.specs.declared.list.Entry.{Entry}
use Rattle.search.specs.declared.list.Match.{Match}
use Rattle.search.specs.declared.list.Wish.{Wish}
use Rattle.search.specs.declared.list.Wish.TheVariants.{Is, IsNot}

-- a row holds what its region holds; a row that no region has holds nothing
abbrev pub row_holds : {X V W : Type 0} → (X → V → Type 0) → (W → Option X) → W → V → Type 0
row_holds holds region w v = MatchOption (region w) ⊥ (λ x. holds x v)

-- what the list says of the value v: the first entry that holds it decides, or none does. `holds` is that of rows.
abbrev pub Says : {V W : Type 0} → (W → V → Type 0) → List (Entry W) → V → Option Match → Type 0
Says {V} {W} holds es v (Some m) = (e : Entry W) × First (λ (f : Entry W). holds f.row v) es m.position e × (e.outcome ≡ m.outcome)
Says {V} {W} holds es v None = Nowhere (λ (f : Entry W). holds f.row v) es

-- the outcome number of the deciding entry; unmatched, which is an outcome too, is None
abbrev pub outcome : Option Match → Option ℕ
outcome (Some m) = Some m.outcome
outcome None = None

-- a match whose outcome is as wished
abbrev pub Meets : Wish → Option Match → Type 0
Meets (Is o) m = outcome m ≡ o
Meets (IsNot o) m = outcome m ≡ o → ⊥
