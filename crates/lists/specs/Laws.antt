-- What is known of lists that lie one after another in a table: where each is, and what an edit of the table makes of it.
use Rattle.std.specs.Prelude.{◌≡◌, ℕ, suc, ◌+◌, ◌-◌, ◌<◌, ◌≤◌, List, [], ◌∷◌, ◌++◌, map, length, take, drop, sum, slice_set}
use Rattle.std.specs.List.{insert, remove}
use Rattle.model.specs.Tree.{count_rules}
use Rattle.model.specs.declared.rules.Rule.{Rule}
use Rattle.lists.specs.Layout.{list_at, Laid}
use Rattle.lists.specs.Lengths.{length_at, start_of}

-- one more list, of one rule
abbrev pub Adds : {X Y : Type 0} → (X → Y) → List ℕ → List Y → List (List X) → Type 0
Adds {X} {Y} row lens table ls = (x : X) (after : List Y) → take (sum lens + 1) after ≡ take (sum lens) table ++ (row x ∷ []) → Laid row (lens ++ (1 ∷ [])) after (ls ++ ((x ∷ []) ∷ []))

-- after an edit the list of f is l and has this size; its rows already are where they were, by the lengths before it
pub record Edits {X Y : Type 0} (row : X → Y) (lens : List ℕ) (after : List Y) (ls : List (List X)) (f size : ℕ) (l : List X) : Type 0 where
  pub laid : Laid row (slice_set lens f size) after (slice_set ls f l)
  pub list : take size (drop (start_of lens f) after) ≡ map row l

-- a rule placed in, altered in and lifted from the list of f
abbrev pub Places : {X Y : Type 0} → (X → Y) → List ℕ → List Y → List (List X) → Type 0
Places {X} {Y} row lens table ls =
    (f : ℕ) → f < length ls → (x : X) (p : ℕ) (after : List Y) → p ≤ length (list_at ls f) → take (sum lens + 1) after ≡ insert (take (sum lens) table) (start_of lens f + p) (row x)
    → Edits row lens after ls f (suc (length_at lens f)) (insert (list_at ls f) p x)

abbrev pub Alters : {X Y : Type 0} → (X → Y) → List ℕ → List Y → List (List X) → Type 0
Alters {X} {Y} row lens table ls =
    (f : ℕ) → f < length ls → (x : X) (p : ℕ) (after : List Y) → p < length (list_at ls f) → after ≡ slice_set table (start_of lens f + p) (row x)
    → Laid row lens after (slice_set ls f (slice_set (list_at ls f) p x)) × (take (length_at lens f) (drop (start_of lens f) after) ≡ map row (slice_set (list_at ls f) p x))

abbrev pub Lifts : {X Y : Type 0} → (X → Y) → List ℕ → List Y → List (List X) → Type 0
Lifts {X} {Y} row lens table ls =
    (f : ℕ) → f < length ls → (p : ℕ) (after : List Y) → p < length (list_at ls f) → take (sum lens - 1) after ≡ remove (take (sum lens) table) (start_of lens f + p)
    → Edits row lens after ls f (length_at lens f - 1) (remove (list_at ls f) p)

-- what is known of a layout
pub record Known {X Y : Type 0} (row : X → Y) (lens : List ℕ) (table : List Y) (ls : List (List X)) : Type 0 where
  -- the lengths are of the lists
  pub count : length lens ≡ length ls
  pub size : (f : ℕ) → length_at lens f ≡ length (list_at ls f)
  -- the rows of each list, within the used rows, and these within the table
  pub list : (f : ℕ) → take (length_at lens f) (drop (start_of lens f) table) ≡ map row (list_at ls f)
  pub end : (f : ℕ) → start_of lens f + length_at lens f ≤ sum lens
  pub within : sum lens ≤ length table
  -- what an edit of the table makes of it
  pub adds : Adds row lens table ls
  pub places : Places row lens table ls
  pub alters : Alters row lens table ls
  pub lifts : Lifts row lens table ls

-- for lists of rules, however a rule is written as a row: any table will do where there is no list; what is known of every
-- layout; and as many rows are used as there are rules
abbrev pub LayoutLaws : (A R Y : Type 0) → Type 0
LayoutLaws A R Y =
    ((row : Rule A R → Y) (table : List Y) → Laid row [] table [])
    × ((row : Rule A R → Y) (lens : List ℕ) (table : List Y) (ls : List (List (Rule A R))) → Laid row lens table ls → Known row lens table ls × (sum lens ≡ count_rules ls))
