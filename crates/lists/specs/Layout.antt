-- How lists lie one after another in a table of rows.
use Rattle.std.specs.Prelude.{◌≡◌, ℕ, List, [], ◌∷◌, ◌++◌, map, length, take, sum}
use Rattle.std.specs.List.{slice_get}
use Rattle.std.specs.Option.{unwrap_or}

-- all lists, one after another
abbrev pub joined : {X : Type 0} → List (List X) → List X
joined [] = []
joined (l ∷ ls) = l ++ joined ls

-- the list of firewall f, none where there is no such firewall
abbrev pub list_at : {X : Type 0} → List (List X) → ℕ → List X
list_at ls f = unwrap_or (slice_get ls f) []

pub record Laid {X Y : Type 0} (row : X → Y) (lens : List ℕ) (table : List Y) (ls : List (List X)) : Type 0 where
  -- the lengths are those of the lists
  pub lengths : lens ≡ map length ls
  -- the used rows are those of the lists, one after another
  pub rows : take (sum lens) table ≡ map row (joined ls)
