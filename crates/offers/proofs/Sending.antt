-- Send: a packet on its way.
use Rattle.std.proofs.Common.{Some, None, Option, sym, subst₂}
use Rattle.kinds.specs.declared.kind.Kind.{Ghosts}
use Rattle.model.specs.Record.{Right, Sent, then_tree}
use Rattle.model.specs.Refusals.{Applies, IsTooShort}
use Rattle.model.specs.Tree.{Tree}
use Rattle.model.specs.declared.answers.Answer.TheVariants.{Refused}
use Rattle.model.specs.declared.answers.Lent.{Lent}
use Rattle.model.specs.declared.answers.Refusal.{Refusal}
use Rattle.model.specs.declared.answers.Refusal.TheVariants.{Outside}
use Rattle.model.specs.declared.calls.Call.{Call}
use Rattle.model.specs.declared.calls.Call.TheVariants.{Send}
use Rattle.model.specs.declared.rules.Header.{Header}
use Rattle.verdicts.specs.Passage.{passage_answer}
use Rattle.verdicts.specs.declared.passage.Stop.{Stop}
use Rattle.state.specs.Picture.{Pictures}
use Rattle.state.specs.Rows.{Stored}
use Rattle.state.specs.declared.state.State.{State}
use Rattle.state.proofs.Order.{Below, below_one, more, none, refuse}

module _ {A R V W X Y : Type 0} (ka : Ghosts A V X) (kr : Ghosts R W Y) (g : State A R) (s : Stored X Y) (t : Tree A R) (pic : Pictures ka.plain kr.plain g s t) (h : Header V W) (l : Lent) (long : IsTooShort l → ⊥) where
  abbrev send : Call A R V W
  send = Send h

  -- the parts of the packet in the wholes
  abbrev pub PartsInside : A → R → Type 0
  PartsInside a r = ka.holds a h.source × (ka.holds a h.destination × kr.holds r h.rest)

  five : Below ka.holds kr.holds t send l 5
  five =
      let up = more ka.holds kr.holds t send l in
      up 4 (up 3 (up 2 (up 1 (below_one ka.holds kr.holds t send l) long) (λ x. x)) (λ x. x)) (λ x. x)

  pub send_outside : (PartsInside g.addresses g.rests → ⊥) → Right ka.holds kr.holds t send l (Refused Outside)
  send_outside out = refuse ka.holds kr.holds t send l Outside five (λ k. out (subst₂ PartsInside (sym pic.addresses) (sym pic.rests) (k.0, (k.1, k.2))))

  module _ (inside : PartsInside g.addresses g.rests) where
    send_none : (q : Refusal V W) → Applies ka.holds kr.holds t send l q → ⊥
    send_none =
        let up = more ka.holds kr.holds t send l in
        let k = subst₂ PartsInside pic.addresses pic.rests inside in
        let eight = up 7 (up 6 (up 5 five (λ x. x (k.0, k.1.0, k.1.1))) (λ x. x.1)) (λ x. x) in
        none ka.holds kr.holds t send l (up 12 (up 11 (up 10 (up 9 (up 8 eight (λ x. x.1)) (λ x. x.1)) (λ x. x.1)) (λ x. x.2)) (λ x. x.3))

    pub send_turns : (p : Option Stop) → Sent ka.holds kr.holds t h (passage_answer p) → Right ka.holds kr.holds t send l (passage_answer p) × Pictures ka.plain kr.plain g s (then_tree t (record { call = send; lent = l; answer = passage_answer p }))
    send_turns None sent = ((send_none, sent), pic)
    send_turns (Some stop) sent = ((send_none, sent), pic)
