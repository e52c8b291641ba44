-- What the console does with a line.
use Rattle.std.specs.Prelude.{◌≡◌, ℕ, zero, suc, ◌<◌, ◌⊎◌, List, ◌++◌, length, drop, Some, None, Option, Ok, Err, Result}
use Rattle.std.specs.List.{slice_get}
use Rattle.forms.specs.declared.prefix.Prefix.{Prefix}
use Rattle.model.specs.Record.{plain}
use Rattle.model.specs.Refusals.{IsTooShort}
use Rattle.model.specs.declared.answers.Answer.{Answer}
use Rattle.model.specs.declared.answers.Answer.TheVariants.{Done}
use Rattle.model.specs.declared.answers.Lent.{Lent}
use Rattle.model.specs.declared.answers.Recorded.{Recorded}
use Rattle.rebuild.specs.Listing.{listing}
use Rattle.register.specs.Promise.{Tells, Promise}
use Rattle.spelling.specs.Forms.{Only}
use Rattle.grammar.specs.Lines.{LongCall, LongRest, LongRestValue}
use Rattle.grammar.specs.Reading.{ReadsLine}
use Rattle.grammar.specs.declared.fault.LineFault.{LineFault}
use Rattle.grammar.specs.declared.line.Line.{Line}
use Rattle.grammar.specs.declared.line.Line.TheVariants as line
use Rattle.replies.specs.Texts.{min_answer, reply_text}
use Rattle.replies.specs.declared.reply.Reply.{Reply}
use Rattle.replies.specs.declared.reply.Reply.TheVariants as reply
use Rattle.lines.specs.Kinds.{address_kind, rest_kind, LongStored}
use Rattle.lines.specs.declared.console.Console.{Console}

abbrev pub called : Option LongCall → Reply
called None = reply.End
called (Some c) = reply.Line (line.Call c)

-- line k of a listing: the heading, then the calls, then no more
abbrev pub listed_line : List LongCall → ℕ → Reply
listed_line cs zero = reply.Line line.Heading
listed_line cs (suc k) = called (slice_get cs k)

-- a slice lent, or the buffer for the reply, is too short
abbrev pub Cramped : Lent → List ℕ → Type 0
Cramped l buf = IsTooShort l ⊎ (length buf < min_answer)

-- the reply to what a line says; s and z are the tables before and after it. A line that is no call leaves all as it was
abbrev pub Replies : Console → LongStored → Lent → Result Line LineFault → Reply → Console → LongStored → Type 0
Replies g s l (Err e) r h z = (r ≡ reply.Fault e) × (h ≡ g) × (z ≡ s)
Replies g s l (Ok line.Heading) r h z = (r ≡ reply.Answer Done) × (h ≡ g) × (z ≡ s)
Replies g s l (Ok (line.Call c)) r h z = (a : Answer ℕ LongRestValue) × (r ≡ reply.Answer a) × Promise address_kind rest_kind g.register s c l a h.register z
Replies g s l (Ok (line.List k)) r h z =
    ((x : Prefix) (y : LongRest) (es : List (Recorded Prefix LongRest ℕ LongRestValue)) → Tells address_kind rest_kind x y es g.register s → r ≡ listed_line (listing (plain x y es)) k)
    × (h ≡ g) × (z ≡ s)

-- what becomes of a line: n is returned, and `after` is the buffer then
pub record Serves (g : Console) (s : LongStored) (l : Lent) (text before : List ℕ) (n : ℕ) (h : Console) (z : LongStored) (after : List ℕ) : Type 0 where
  -- where there is too little memory nothing is done
  pub cramped : Cramped l before → (n ≡ 0) × (after ≡ before) × (h ≡ g) × (z ≡ s)
  -- else the reply to what the line means, which is one thing only, stands at the front of the buffer, and what is behind it is as it was
  pub served : (Cramped l before → ⊥) → (m : Result Line LineFault) × (r : Reply) × Only (ReadsLine text) m × Replies g s l m r h z
      × (n ≡ length (reply_text r)) × (after ≡ reply_text r ++ drop n before)
