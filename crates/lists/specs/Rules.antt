-- What a table of lengths keeps.
use Rattle.std.specs.Prelude.{ℕ, ◌≤◌, List, All}
use Rattle.model.specs.Limits.{max_list}

-- no list is too long
abbrev pub Short : List ℕ → Type 0
Short lengths = All (λ n. n ≤ max_list) lengths
