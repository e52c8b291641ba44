-- The outcome numbers of the actions.
use Rattle.std.specs.Prelude.{◌≡◌, ◌≢◌, ℕ, Result, MatchResult}
use Rattle.list_audit.specs.declared.rules.Action.{Action}
use Rattle.list_audit.specs.declared.rules.Action.TheVariants.{Accept, Discard}
use Rattle.list_audit.specs.declared.rules.UnknownAction.{UnknownAction}

abbrev pub number_of : Action → ℕ
number_of Accept = 1
number_of Discard = 0

-- the action with this outcome number, or an error with the number, which no action has
abbrev pub Decodes : ℕ → Result Action UnknownAction → Type 0
Decodes number r = MatchResult r (λ action. number_of action ≡ number) (λ unknown. (unknown.0 ≡ number) × ((a : Action) → number_of a ≢ number))
