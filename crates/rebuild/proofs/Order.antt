-- The order in which the firewalls of a tree come: each with the first domain below it.
use Rattle.std.proofs.Common.{◌≡◌, ℕ, suc, ◌+◌, ◌<◌, ◌≤◌, ◌⊎◌, ◌==◌, ◌||◌, Bool, true, false, List, [], ◌∷◌, ◌++◌, length, refl, ap, ◌∙◌, subst, inl, inr, arith, eq-eqb}
use native.Mathlib.Decide.{ℕ_discrete}
use Rattle.std.proofs.lemmas.Bool.{ne_eqb}
use Rattle.model.specs.declared.path.Uplink.{Uplink}
use Rattle.rebuild.specs.Listing.{some_below}

-- where n firewalls have come, each of these domains lies below one that has come or is the first below the next; m come in all
abbrev pub InOrder : ℕ → List Uplink → ℕ → Type 0
InOrder n [] m = n ≡ m
InOrder n (u ∷ us) m = ((u.node < n) × InOrder n us m) ⊎ ((u.node ≡ n) × InOrder (suc n) us m)

-- one domain more, below a firewall that has come
pub in_order_old : (n m : ℕ) (us : List Uplink) (u : Uplink) → u.node < m → InOrder n us m → InOrder n (us ++ (u ∷ [])) m
in_order_old n m [] u below order = inl (omega arith, order)
in_order_old n m (v ∷ us) u below (inl (old, order)) = inl (old, in_order_old n m us u below order)
in_order_old n m (v ∷ us) u below (inr (next, order)) = inr (next, in_order_old (suc n) m us u below order)

-- and one below the next
pub in_order_next : (n m k : ℕ) (us : List Uplink) (u : Uplink) → u.node ≡ m → suc m ≡ k → InOrder n us m → InOrder n (us ++ (u ∷ [])) k
in_order_next n m k [] u is more order = inr (omega arith, omega arith)
in_order_next n m k (v ∷ us) u is more (inl (old, order)) = inl (old, in_order_next n m k us u is more order)
in_order_next n m k (v ∷ us) u is more (inr (next, order)) = inr (next, in_order_next (suc n) m k us u is more order)

-- some of these domains lies below f exactly where f is one of the first n firewalls
pub record Below (us : List Uplink) (n : ℕ) : Type 0 where
  pub some : (f : ℕ) → f < n → some_below us f ≡ true
  pub none : (f : ℕ) → n ≤ f → some_below us f ≡ false

pub below_none : Below [] 0
below_none = record { some = λ f less. absurd (omega arith); none = λ f le. refl }

or_assoc : (a b c : Bool) → (a || (b || c)) ≡ ((a || b) || c)
or_assoc true b c = refl
or_assoc false b c = refl

some_append : (us vs : List Uplink) (f : ℕ) → some_below (us ++ vs) f ≡ (some_below us f || some_below vs f)
some_append [] vs f = refl
some_append (u ∷ us) vs f = ap (λ b. (u.node == f) || b) (some_append us vs f) ∙ or_assoc (u.node == f) (some_below us f) (some_below vs f)

some_push : (us : List Uplink) (u : Uplink) (f : ℕ) → some_below us f ≡ true → some_below (us ++ (u ∷ [])) f ≡ true
some_push us u f e = some_append us (u ∷ []) f ∙ ap (λ b. b || some_below (u ∷ []) f) e

none_push : (us : List Uplink) (u : Uplink) (f : ℕ) → some_below us f ≡ false → (u.node ≡ f → ⊥) → some_below (us ++ (u ∷ [])) f ≡ false
none_push us u f e other = some_append us (u ∷ []) f ∙ ap (λ b. b || some_below (u ∷ []) f) e ∙ ap (λ b. b || false) (ne_eqb u.node f other)

or_true : (b : Bool) → (b || true) ≡ true
or_true true = refl
or_true false = refl

some_new : (us : List Uplink) (u : Uplink) → some_below (us ++ (u ∷ [])) u.node ≡ true
some_new us u = some_append us (u ∷ []) u.node ∙ ap (λ b. some_below us u.node || (b || false)) (eq-eqb u.node u.node refl) ∙ or_true (some_below us u.node)

pub below_old : (us : List Uplink) (u : Uplink) (n : ℕ) → u.node < n → Below us n → Below (us ++ (u ∷ [])) n
below_old us u n less b = record { some = λ f below. some_push us u f (b.some f below); none = λ f le. none_push us u f (b.none f le) (λ e. omega arith) }

pub below_next : (us : List Uplink) (u : Uplink) (n : ℕ) → u.node ≡ n → Below us n → Below (us ++ (u ∷ [])) (suc n)
below_next us u n is b = record {
  some = λ f below. elim (ℕ_discrete u.node f) [
    | yes same ↦ subst (λ g. some_below (us ++ (u ∷ [])) g ≡ true) same (some_new us u)
    | no other ↦ some_push us u f (b.some f (omega arith))
  ];
  none = λ f le. none_push us u f (b.none f (omega arith)) (λ e. omega arith);
}

-- no more firewalls come than there are domains
pub in_order_few : (n m : ℕ) (us : List Uplink) → InOrder n us m → m ≤ n + length us
in_order_few n m [] order = omega arith
in_order_few n m (u ∷ us) (inl (old, order)) = let few = in_order_few n m us order in omega arith
in_order_few n m (u ∷ us) (inr (next, order)) = let few = in_order_few (suc n) m us order in omega arith
