-- Rows of a table of which the first u are used.
use Rattle.std.specs.Prelude.{ℕ, ◌+◌, List, ◌++◌, take, drop}
use Rattle.std.specs.List.{insert, remove}

-- x put in at a position among the used rows; the row behind them is used up
abbrev pub row_in : {X : Type 0} → ℕ → ℕ → X → List X → List X
row_in u at x xs = insert (take u xs) at x ++ drop (u + 1) xs

-- the row at a position taken out from among the used ones, and put behind them
abbrev pub row_out : {X : Type 0} → ℕ → ℕ → List X → List X
row_out u at xs = remove (take u xs) at ++ (take 1 (drop at xs) ++ drop u xs)
