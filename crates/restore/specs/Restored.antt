-- A console built again from another's listing.
use Rattle.std.specs.Prelude.{◌≡◌, ℕ, zero, suc, ◌<◌, ◌≤◌, List, length, take, Bool, true, Ok, Err, Result}
use Rattle.forms.specs.declared.prefix.Prefix.{Prefix}
use Rattle.model.specs.Record.{plain}
use Rattle.model.specs.Refusals.{IsTooShort}
use Rattle.model.specs.Tree.{start}
use Rattle.model.specs.declared.answers.Answer.{Answer}
use Rattle.model.specs.declared.answers.Lent.{Lent}
use Rattle.model.specs.declared.answers.Recorded.{Recorded}
use Rattle.rebuild.specs.Again.{built, Rebuilds}
use Rattle.rebuild.specs.Listing.{listing}
use Rattle.register.specs.Promise.{Tells, Promise}
use Rattle.grammar.specs.Lines.{LongCall, LongRest, LongRestValue}
use Rattle.grammar.specs.Reading.{ReadsLine}
use Rattle.grammar.specs.declared.line.Line.TheVariants as line
use Rattle.replies.specs.Texts.{reply_text, answer_word, ok}
use Rattle.lines.specs.Serve.{listed_line}
use Rattle.lines.specs.Wholes.{LongWholes}
use Rattle.lines.specs.Kinds.{address_kind, rest_kind, LongStored}
use Rattle.lines.specs.declared.console.Console.{Console}
use Rattle.restore.specs.declared.again.Step.{Step}
use Rattle.restore.specs.declared.again.Step.TheVariants.{Taken, Ended, Refused}
use Rattle.restore.specs.declared.again.Unrestored.{Unrestored}

abbrev pub LongRecord : Type 0
LongRecord = List (Recorded Prefix LongRest ℕ LongRestValue)

-- the calls of the listing of a record's tree
abbrev pub listing_of : Prefix → LongRest → LongRecord → List LongCall
listing_of x y es = listing (plain x y es)

-- how many of the first k lines are calls: all but the heading
abbrev pub calls_among : ℕ → ℕ
calls_among zero = 0
calls_among (suc j) = j

-- the reply to a request for a line of the listing stands at the front of the buffer
abbrev pub Listed : Console → LongStored → Lent → ℕ → ℕ → List ℕ → Type 0
Listed g s l k n buf = (x : Prefix) (y : LongRest) (es : LongRecord) → Tells address_kind rest_kind x y es g.register s → (IsTooShort l → ⊥)
    → (n ≡ length (reply_text (listed_line (listing_of x y es) k))) × (take n buf ≡ reply_text (listed_line (listing_of x y es) k))

-- a line that says a call is taken where the answer is some ok; the heading always is
pub record Takes (g : Console) (s : LongStored) (l : Lent) (text : List ℕ) (taken : Bool) (h : Console) (z : LongStored) : Type 0 where
  pub heading : (IsTooShort l → ⊥) → ReadsLine text (Ok line.Heading) → (taken ≡ true) × (h ≡ g) × (z ≡ s)
  pub call : (IsTooShort l → ⊥) → (c : LongCall) → ReadsLine text (Ok (line.Call c)) → (a : Answer ℕ LongRestValue) × Promise address_kind rest_kind g.register s c l a h.register z × (answer_word a ≡ ok → taken ≡ true)

-- the console stands as the first k lines of the listing of es leave a new one: the heading makes no call
pub record Reached (x : Prefix) (y : LongRest) (es : LongRecord) (k : ℕ) (g : Console) (s : LongStored) : Type 0 where
  pub fs : LongRecord
  pub told : Tells address_kind rest_kind x y fs g.register s
  pub tree : plain x y fs ≡ built {V = ℕ} {W = LongRestValue} (start x y) (take (calls_among k) (listing_of x y es))

abbrev pub Steps : Prefix → LongRest → LongRecord → ℕ → Step → Console → LongStored → Type 0
Steps x y es k Taken h z = (k ≤ length (listing_of x y es)) × Reached x y es (suc k) h z
Steps x y es k Ended h z = (length (listing_of x y es) < k) × Reached x y es k h z
Steps x y es k Refused h z = ⊥

-- console g stands with its tables s as the record es leaves it, whose listing builds its tree again, and there is memory enough for both
pub record Sets (x : Prefix) (y : LongRest) (es : LongRecord) (g : Console) (s : LongStored) (l m : Lent) : Type 0 where
  pub wholes : LongWholes x y
  pub told : Tells address_kind rest_kind x y es g.register s
  pub rebuilds : Rebuilds address_kind.holds rest_kind.holds (plain x y es)
  pub first : IsTooShort l → ⊥
  pub second : IsTooShort m → ⊥

-- line k is read from console g into another, which is h with tables z then
abbrev pub ReadsOn : Console → LongStored → Lent → Lent → ℕ → Console → LongStored → Step → Console → LongStored → Type 0
ReadsOn g s l m k c t step h z = (x : Prefix) (y : LongRest) (es : LongRecord) → Sets x y es g s l m → Reached x y es k c t → Steps x y es k step h z

-- no line was refused, and the new console stands as some lawful record leaves it whose plain tree is that of es
abbrev pub BuiltAgain : Prefix → LongRest → LongRecord → Result Console Unrestored → LongStored → Type 0
BuiltAgain x y es (Ok h) z = (fs : LongRecord) × Tells address_kind rest_kind x y fs h.register z × (plain x y fs ≡ plain x y es)
BuiltAgain x y es (Err e) z = ⊥

-- what becomes of console g with its tables s, which are lent with lengths l; the new console's memory has lengths m, and z is in its tables then
pub record Restores (g : Console) (s : LongStored) (l m : Lent) (r : Result Console Unrestored) (h : Console) (t z : LongStored) : Type 0 where
  pub kept : (h ≡ g) × (t ≡ s)
  pub again : (x : Prefix) (y : LongRest) (es : LongRecord) → LongWholes x y → Tells address_kind rest_kind x y es g.register s
      → (IsTooShort l → ⊥) → (IsTooShort m → ⊥) → BuiltAgain x y es r z
