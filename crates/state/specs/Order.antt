-- The checks of a call, in the order of the refusal table.
use Rattle.std.specs.Prelude.{◌≡◌, ℕ, ◌<◌, Ok, Err, Result}
use Rattle.kinds.specs.Words.{Inside}
use Rattle.model.specs.Record.{Right}
use Rattle.model.specs.Refusals.{number, Applies}
use Rattle.model.specs.Tree.{Tree}
use Rattle.model.specs.declared.answers.Answer as answer
use Rattle.model.specs.declared.answers.Lent.{Lent}
use Rattle.model.specs.declared.answers.Refusal.{Refusal}
use Rattle.model.specs.declared.calls.Call.{Call}

module _ {A R V W : Type 0} (addr : A → V → Type 0) (rests : R → W → Type 0) where
  -- no refusal with a number below n applies
  abbrev pub Passed : Tree A R → Call A R V W → Lent → ℕ → Type 0
  Passed t c l n = (q : Refusal V W) → number q < n → Applies addr rests t c l q → ⊥

  -- what the checks of the numbers below n say: all are passed, or the refusal is the right answer
  abbrev pub Checked : {X : Type 0} → Tree A R → Call A R V W → Lent → ℕ → Result X (Refusal V W) → Type 0
  Checked t c l n (Ok x) = Passed t c l n
  Checked t c l n (Err e) = Right addr rests t c l (answer.TheVariants.Refused e)

  -- a source, a destination and a rest that lie inside these wholes
  abbrev pub RegionsInside : A → R → A → A → R → Type 0
  RegionsInside addresses others source destination rest = Inside (addr source) (addr addresses) × (Inside (addr destination) (addr addresses) × Inside (rests rest) (rests others))

-- refused as e exactly where the cause is given
abbrev pub Refuses : {X E : Type 0} → Result X E → E → Type 0 → Type 0
Refuses (Ok x) e cause = cause → ⊥
Refuses (Err q) e cause = (q ≡ e) × cause

-- refused as e exactly where the fact does not hold
abbrev pub Demands : {X E : Type 0} → Result X E → E → Type 0 → Type 0
Demands (Ok x) e fact = fact
Demands (Err q) e fact = (q ≡ e) × (fact → ⊥)
