-- The text of a line: a word, and values behind it, a comma before each.
use Rattle.std.specs.Prelude.{ℕ, ◌+◌, List, [], ◌∷◌, ◌++◌, decimal}
use Rattle.spelling.specs.Letters.{decision_text, set_text}
use Rattle.spelling.specs.Writes.{address_text, prefix_text, range_text}
use Rattle.grammar.specs.declared.value.Value.{Value}
use Rattle.grammar.specs.declared.value.Value.TheVariants.{Number, Decision, Set, Address, Prefix, Range}

-- `,`
abbrev pub comma : ℕ
comma = 44

abbrev pub value_text : Value → List ℕ
value_text (Number n) = decimal n
value_text (Decision d) = decision_text d
value_text (Set x) = set_text x
value_text (Address a) = address_text a
value_text (Prefix x) = prefix_text x
value_text (Range x) = range_text x

abbrev pub behind_commas : List Value → List ℕ
behind_commas [] = []
behind_commas (v ∷ vs) = comma ∷ (value_text v ++ behind_commas vs)

abbrev pub phrase : List ℕ → List Value → List ℕ
phrase word vs = word ++ behind_commas vs

-- the most bytes that a value of its case can take
abbrev pub widest : Value → ℕ
widest (Number n) = 20
widest (Decision d) = 1
widest (Set x) = 8
widest (Address a) = 15
widest (Prefix x) = 18
widest (Range x) = 21

-- the same of values with a comma before each
abbrev pub longest : List Value → ℕ
longest [] = 0
longest (v ∷ vs) = 1 + widest v + longest vs
