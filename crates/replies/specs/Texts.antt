-- The bytes of a reply: a word, the values that it shows, and a line feed.
use Rattle.std.specs.Prelude.{ℕ, List, [], ◌∷◌, ◌++◌}
use Rattle.model.specs.Refusals.{number}
use Rattle.model.specs.declared.answers.Answer.{Answer}
use Rattle.model.specs.declared.answers.Answer.TheVariants.{Done, Attached, Branched, Kept, Broken, Passed, Stopped, Refused}
use Rattle.model.specs.declared.answers.Refusal.{Refusal}
use Rattle.model.specs.declared.answers.Refusal.TheVariants as refusal
use Rattle.model.specs.declared.rules.Packet.{Packet}
use Rattle.grammar.specs.Faults.{cause_number}
use Rattle.grammar.specs.Lines.{LongRestValue, letter, verb_of, values_of}
use Rattle.grammar.specs.Texts.{phrase}
use Rattle.grammar.specs.declared.value.Value.{Value}
use Rattle.grammar.specs.declared.value.Value.TheVariants.{Number, Address}
use Rattle.replies.specs.declared.reply.Reply.{Reply}
use Rattle.replies.specs.declared.reply.Reply.TheVariants as reply

-- the bytes that a buffer for replies must have
abbrev pub min_answer : ℕ
min_answer = 200

abbrev pub line_feed : ℕ
line_feed = 10

-- ok, kept, broken, passed, stopped, none and no
abbrev pub ok : List ℕ
ok = 111 ∷ 107 ∷ []

abbrev pub kept : List ℕ
kept = 107 ∷ 101 ∷ 112 ∷ 116 ∷ []

abbrev pub broken : List ℕ
broken = 98 ∷ 114 ∷ 111 ∷ 107 ∷ 101 ∷ 110 ∷ []

abbrev pub passed : List ℕ
passed = 112 ∷ 97 ∷ 115 ∷ 115 ∷ 101 ∷ 100 ∷ []

abbrev pub stopped : List ℕ
stopped = 115 ∷ 116 ∷ 111 ∷ 112 ∷ 112 ∷ 101 ∷ 100 ∷ []

abbrev pub none : List ℕ
none = 110 ∷ 111 ∷ 110 ∷ 101 ∷ []

abbrev pub no : List ℕ
no = 110 ∷ 111 ∷ []

-- the interface, both addresses, both ports (the source first each time) and the protocol
abbrev pub packet_values : Packet ℕ LongRestValue → List Value
packet_values k = Number k.interface ∷ Address k.source ∷ Address k.destination ∷ Number k.rest.left ∷ Number k.rest.right.left ∷ Number k.rest.right.right ∷ []

-- what a refusal shows
abbrev pub shown : Refusal ℕ LongRestValue → List Value
shown refusal.TooShort = []
shown refusal.NoSuch = []
shown refusal.BadInterface = []
shown refusal.Full = []
shown refusal.Outside = []
shown (refusal.Overlap b) = Number b ∷ []
shown refusal.Unjoined = []
shown (refusal.SourceAstray a) = Address a ∷ []
shown (refusal.DestinationAstray a) = Address a ∷ []
shown (refusal.Unmatched k) = packet_values k
shown (refusal.Misplaced n a) = Number n ∷ Address a ∷ []
shown (refusal.Breaks n f k) = Number n ∷ Number f ∷ packet_values k

abbrev pub answer_word : Answer ℕ LongRestValue → List ℕ
answer_word Done = ok
answer_word (Attached f d) = ok
answer_word (Branched d) = ok
answer_word Kept = kept
answer_word (Broken f k) = broken
answer_word Passed = passed
answer_word (Stopped f p) = stopped
answer_word (Refused r) = no

abbrev pub answer_values : Answer ℕ LongRestValue → List Value
answer_values Done = []
answer_values (Attached f d) = Number f ∷ Number d ∷ []
answer_values (Branched d) = Number d ∷ []
answer_values Kept = []
answer_values (Broken f k) = Number f ∷ packet_values k
answer_values Passed = []
answer_values (Stopped f p) = Number f ∷ Number p ∷ []
answer_values (Refused r) = Number (number r) ∷ shown r

abbrev pub reply_word : Reply → List ℕ
reply_word (reply.Answer a) = answer_word a
reply_word (reply.Line l) = letter (verb_of l) ∷ []
reply_word reply.End = none
reply_word (reply.Fault e) = no

abbrev pub reply_values : Reply → List Value
reply_values (reply.Answer a) = answer_values a
reply_values (reply.Line l) = values_of l
reply_values reply.End = []
reply_values (reply.Fault e) = Number (cause_number e.cause) ∷ Number e.field ∷ Number e.byte ∷ []

abbrev pub reply_text : Reply → List ℕ
reply_text r = phrase (reply_word r) (reply_values r) ++ (line_feed ∷ [])
