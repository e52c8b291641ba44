-- What becomes of a packet on its way.
use Rattle.std.specs.Prelude.{ℕ, List, Some, None, Option, MatchOption}
use Rattle.model.specs.Packets.{Decided, Discarded}
use Rattle.model.specs.declared.answers.Answer as answer
use Rattle.model.specs.declared.answers.Answer.{Answer}
use Rattle.model.specs.declared.rules.Decision.TheVariants.{Discard}
use Rattle.model.specs.declared.rules.Packet.{Packet}
use Rattle.model.specs.declared.rules.Rule.{Rule}
use Rattle.verdicts.specs.declared.passage.Stop.{Stop}

-- the answer to a packet that is sent, by its first stop
abbrev pub passage_answer : {V W : Type 0} → Option Stop → Answer V W
passage_answer None = answer.TheVariants.Passed
passage_answer (Some s) = answer.TheVariants.Stopped s.firewall s.position

module _ {A R V W : Type 0} (addr : A → V → Type 0) (rests : R → W → Type 0) where
  -- the position of the rule that discards the packet, or nothing exactly where the list does not discard it
  abbrev pub DiscardFound : List (Rule A R) → Packet V W → Option ℕ → Type 0
  DiscardFound rs k r = MatchOption r (Discarded addr rests rs k → ⊥) (λ n. Decided addr rests rs k n Discard)
