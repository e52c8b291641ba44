-- The subtree below a domain, and the first hop of the way from one domain to another.
use Rattle.std.specs.Prelude.{◌≡◌, ℕ, ◌≢◌}
use Rattle.model.specs.Shape.{Shape, Hangs, Lies}
use Rattle.model.specs.declared.path.Hop.{Hop}

-- d is in the subtree of the domain e: e itself, or below a firewall below a domain of that subtree
pub data Sub (s : Shape) (e : ℕ) : ℕ → Type 0 where
  self : {d : ℕ} → d ≡ e → Sub s e d
  climb : {d f i c j : ℕ} → Lies s d f i → Hangs s f c j → Sub s e c → Sub s e d

-- What the first hop of the way from u to v is: up where v is below no domain of that firewall, else to the one that v is below.
pub data Way (s : Shape) (u v : ℕ) (h : Hop) : Type 0 where
  up : Lies s u h.firewall h.entered → Hangs s h.firewall h.reached h.left → ((e i : ℕ) → Lies s e h.firewall i → Sub s e v → ⊥) → Way s u v h
  across : Lies s u h.firewall h.entered → Lies s h.reached h.firewall h.left → (h.reached ≢ u) → Sub s h.reached v → Way s u v h
  down : Hangs s h.firewall u h.entered → Lies s h.reached h.firewall h.left → Sub s h.reached v → Way s u v h
