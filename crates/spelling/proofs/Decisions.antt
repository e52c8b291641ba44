-- Texts that are no decision.
use Rattle.std.proofs.Common.{◌≡◌, ℕ, List, [], ◌∷◌, refl, arith}
use Rattle.model.specs.declared.rules.Decision.{Decision}
use Rattle.model.specs.declared.rules.Decision.TheVariants.{Accept}
use Rattle.spelling.specs.Misfit.{Misfit}
use Rattle.spelling.specs.Letters.{letter, IsDecisionText}
use Rattle.spelling.proofs.Misfits.{misfit_at}
use Rattle.spelling.proofs.Parts.{same_head}

-- a text that begins with no letter of a decision
pub no_letter : (text : List ℕ) → ((d : Decision) (rest : List ℕ) → text ≡ letter d ∷ rest → ⊥) → Misfit IsDecisionText text 0
no_letter text none =
    misfit_at IsDecisionText text 0 (omega arith) (97 ∷ [], (Accept, refl)) (λ y first (d, is). let (rest, e) = same_head text y [] (letter d) first is in none d rest e)
