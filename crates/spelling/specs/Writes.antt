-- What a writer writes, and that it is read back.
use Rattle.std.specs.Prelude.{◌≡◌, ℕ, ◌+◌, ◌<◌, ◌≤◌, List, [], ◌∷◌, ◌++◌, length, take, drop, Ok, Err, Result, decimal}
use Rattle.std.specs.Int.{w32, to_be_bytes}
use Rattle.forms.specs.declared.prefix.Prefix.{Prefix}
use Rattle.forms.specs.declared.range.Range.{Range}
use Rattle.tables.specs.declared.full.Full.{Full}
use Rattle.spelling.specs.Forms.{mark_byte}
use Rattle.spelling.specs.declared.form.Mark.{Mark}
use Rattle.spelling.specs.declared.form.TheConstants.{ADDRESS, PREFIX, RANGE}

-- the text stands in the buffer from `at` on, up to `end`; what is before and behind is as it was
pub record Wrote (old new : List ℕ) (at : ℕ) (text : List ℕ) (end : ℕ) : Type 0 where
  pub end_is : end ≡ at + length text
  pub room : end ≤ length old
  pub all : new ≡ take at old ++ (text ++ drop end old)

-- there is no room for the text; what is before `at` is as it was
pub record NoRoom (old new : List ℕ) (at : ℕ) (text : List ℕ) : Type 0 where
  pub short : length old < at + length text
  pub same_length : length new ≡ length old
  pub front : take at new ≡ take at old

-- the text is written and its end answered, exactly where there is room
abbrev pub Puts : List ℕ → List ℕ → ℕ → List ℕ → Result ℕ Full → Type 0
Puts old new at text (Ok end) = Wrote old new at text end
Puts old new at text (Err e) = NoRoom old new at text

-- numbers without extra zeros, each behind its mark
abbrev pub marked_text : List Mark → List ℕ → List ℕ
marked_text (m ∷ marks) (n ∷ ns) = mark_byte m ∷ (decimal n ++ marked_text marks ns)
marked_text (m ∷ marks) [] = []
marked_text [] ns = []

-- numbers with marks between them
abbrev pub form_text : List Mark → List ℕ → List ℕ
form_text marks (n ∷ ns) = decimal n ++ marked_text marks ns
form_text marks [] = []

abbrev pub address_text : ℕ → List ℕ
address_text a = form_text ADDRESS (to_be_bytes w32 a)

abbrev pub prefix_text : Prefix → List ℕ
prefix_text x = form_text PREFIX (to_be_bytes w32 x.address ++ x.length ∷ [])

abbrev pub range_text : Range → List ℕ
range_text x = form_text RANGE (x.lo ∷ x.hi ∷ [])
