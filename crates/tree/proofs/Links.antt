-- What the links of a tree say of the domains that a firewall is joined to.
use Rattle.std.proofs.Common.{◌≡◌, ℕ, suc, Bool, subst, ◌<◌, ◌≤◌, length, true, arith, Option, Some, None, MatchOption, Decides, is_some, sym, refl, inl, inr}
use Rattle.std.specs.List.{slice_get}
use Rattle.model.specs.Shape.{Shape, Hangs, Lies, Joined, Sound}
use Rattle.model.specs.declared.path.Uplink.{Uplink}
use Rattle.model.proofs.Subtrees.{hangs_one, joined_within}

-- no domain is joined to a firewall that there is not
pub joined_none : (s : Shape) → Sound s → (f : ℕ) → None ≡ slice_get s.firewalls f → (d i : ℕ) → Joined s f d i → ⊥
joined_none s ok f none d i (inl h) = cc
joined_none s ok f none d i (inr l) = let (c, j, h, less) = ok.falls d f i l in cc

-- a firewall that two domains are joined to, sought among all that there are
module _ (s : Shape) (ok : Sound s) (one other : ℕ) where
  abbrev pub Shared : ℕ → Type 0
  Shared f = (i : ℕ) × (j : ℕ) × Joined s f one i × Joined s f other j

  abbrev pub Unshared : ℕ → Type 0
  Unshared f = (i j : ℕ) → Joined s f one i → Joined s f other j → ⊥

  pub shared_of_all : (r : Option ℕ) → MatchOption r ((f : ℕ) → 0 ≤ f → f < length s.firewalls → Unshared f) (λ f. (0 ≤ f) × (f < length s.firewalls) × Shared f × ((g : ℕ) → 0 ≤ g → g < f → Unshared g)) → MatchOption r ((f : ℕ) → Unshared f) Shared
  shared_of_all None none = λ f i j a b. none f (omega arith) (joined_within s ok f one i a) i j a b
  shared_of_all (Some f) (low, less, found, none) = found

module _ (s : Shape) (f : ℕ) (u : Uplink) (at : Some u ≡ slice_get s.firewalls f) where
  -- a domain that is not above the firewall, and not below it, is not joined to it
  pub unjoined : (d : ℕ) → (u.node ≡ d → ⊥) → ((i : ℕ) → Lies s d f i → ⊥) → (i : ℕ) → Joined s f d i → ⊥
  unjoined d up down i (inl h) = up (hangs_one s f u.node u.interface d i (sym at) h).0
  unjoined d up down i (inr l) = down i l

  -- the upper interface is used, any other where a domain lies below by it
  pub used_up : (i : ℕ) → u.interface ≡ i → (d : ℕ) × Joined s f d i
  used_up i same = (u.node, inl (subst (λ x. Hangs s f u.node x) same (sym at)))

  pub used_below : (b : Bool) (i : ℕ) → (u.interface ≡ i → ⊥) → Decides b ((k : ℕ) × (slice_get s.domains k ≡ Some (record { node = f; interface = i }))) → Decides b ((d : ℕ) × Joined s f d i)
  used_below b i other (there, back) = (
    λ e. let (k, l) = there e in (suc k, inr (k, refl, l)),
    λ (d, joined). elim joined [
      | inl h ↦ absurd (other (hangs_one s f u.node u.interface d i (sym at) h).1)
      | inr l ↦ back (l.0, l.2)
    ],
  )

-- what a search found, and whether it found something
pub found_decides : {A : Type 0} {P : A → Type 0} (o : Option A) → MatchOption o ((a : A) → P a → ⊥) P → Decides (is_some o) ((a : A) × P a)
found_decides None none = (λ e. cc, λ (a, p). absurd (none a p))
found_decides (Some a) p = (λ e. (a, p), λ _. refl)

-- what two searches found, the second only where the first found something
module _ {A B : Type 0} (P : A → Type 0) (Q : B → Type 0) (o : Option A) (r : Option B) (one : MatchOption o ((a : A) → P a → ⊥) P) where
  pub second_decides : is_some o ≡ true → MatchOption r ((b : B) → Q b → ⊥) Q → Decides (is_some r) ((a : A) × (b : B) × P a × Q b)
  second_decides found other =
      let (a, p) = (found_decides {P = P} o one).0 found in
      let (there, back) = found_decides {P = Q} r other in
      (λ e. let (b, q) = there e in (a, b, p, q), λ (a2, b, p2, q). back (b, q))
