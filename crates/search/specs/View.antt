-- What a question sees of a list.
use Rattle.std.specs.Prelude.{◌≡◌, ℕ, ◌⊎◌, Bool, true, false, not, nat_eq, List, [], ◌∷◌, map, Some, None, Option}
use Rattle.search.specs.First.{First, Nowhere}
use Rattle.search.specs.declared.list.Entry.{Entry}
use Rattle.search.specs.declared.list.Wish.{Wish}
use Rattle.search.specs.declared.list.Wish.TheVariants.{Is, IsNot}
use Rattle.search.specs.declared.sight.Sight.{Sight}
use Rattle.search.specs.declared.sight.Sight.TheVariants.{Good, Bad, Passed}

-- an entry holds what its region holds; one that is passed over holds nothing
abbrev pub Holds : {X V : Type 0} → (X → V → Type 0) → V → Sight X → Type 0
Holds holds v (Good x) = holds x v
Holds holds v (Bad x) = holds x v
Holds holds v Passed = ⊥

-- the first entry that holds v is good; or none holds it, and the end is good
abbrev pub WellDecided : {X V : Type 0} → (X → V → Type 0) → List (Sight X) → Bool → V → Type 0
WellDecided {X} holds ss end v = ((k : ℕ) × (x : X) × First (Holds holds v) ss k (Good x)) ⊎ (Nowhere (Holds holds v) ss × (end ≡ true))

-- the regions of the entries that are not passed over
abbrev pub regions_of : {X : Type 0} → List (Sight X) → List X
regions_of [] = []
regions_of (Good x ∷ ss) = x ∷ regions_of ss
regions_of (Bad x ∷ ss) = x ∷ regions_of ss
regions_of (Passed ∷ ss) = regions_of ss

-- the same outcome; unmatched, which is an outcome too, is None
abbrev pub is_same : Option ℕ → Option ℕ → Bool
is_same None None = true
is_same None (Some n) = false
is_same (Some m) None = false
is_same (Some m) (Some n) = nat_eq m n

-- an outcome as wished
abbrev pub is_wanted : Wish → Option ℕ → Bool
is_wanted (Is o) p = is_same p o
is_wanted (IsNot o) p = not (is_same p o)

abbrev pub sight_with : {X : Type 0} → Option X → Bool → Sight X
sight_with None good = Passed
sight_with (Some x) true = Good x
sight_with (Some x) false = Bad x

-- an entry of a list: good where its outcome is as wished; a row that reads as nothing is passed over
abbrev pub sight_of : {X W : Type 0} → (W → Option X) → Wish → Entry W → Sight X
sight_of region wish e = sight_with (region e.row) (is_wanted wish (Some e.outcome))

abbrev pub sights_of : {X W : Type 0} → (W → Option X) → Wish → List (Entry W) → List (Sight X)
sights_of region wish es = map (sight_of region wish) es

-- the end is good where unmatched is wished
abbrev pub end_of : Wish → Bool
end_of wish = is_wanted wish None
