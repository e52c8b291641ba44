-- A value that is made only where a rule holds.
use Rattle.std.specs.Prelude.{Some, None, Option}

-- what f makes of the rule's proof, or nothing where the rule does not hold
abbrev pub provided : {P X : Type 0} → Dec P → (P → X) → Option X
provided (yes h) f = Some (f h)
provided (no h) f = None

abbrev pub dec_both : {P Q : Type 0} → Dec P → Dec Q → Dec (P × Q)
dec_both (yes p) (yes q) = yes (p, q)
dec_both (yes p) (no q) = no (λ h. q h.1)
dec_both (no p) q = no (λ h. p h.0)
