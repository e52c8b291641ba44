-- The calls of the domains, line by line.
use Rattle.std.proofs.Common.{◌≡◌, ℕ, zero, suc, ◌+◌, ◌<◌, ◌≤◌, ◌==◌, ◌||◌, Bool, true, false, List, [], ◌∷◌, ◌++◌, length, take, drop, Some, None, Option, MatchOption, if◌then◌else◌, sym, refl, ap, ◌∙◌, append_assoc, arith}
use Rattle.std.proofs.lemmas.List.{append-nil, drop_more}
use Rattle.std.specs.List.{slice_get, list_any, range_with_len}
use Rattle.std.specs.Option.{option_map}
use Rattle.model.specs.Shape.{Shape, Lies}
use Rattle.model.specs.declared.calls.Call.{Call}
use Rattle.model.specs.declared.calls.Call.TheVariants.{Attach, Branch}
use Rattle.model.specs.declared.rules.Decision.TheVariants.{Discard}
use Rattle.model.specs.declared.path.Uplink.{Uplink}
use Rattle.rebuild.specs.Listing.{some_below, hook, domain_call, domain_calls}
use Rattle.tree.specs.Rules.{no_uplink, node_at}
use Rattle.model.proofs.Subtrees.{nth_some}

module _ (A R V W : Type 0) (s : Shape) where
  abbrev calls : List Uplink → List Uplink → List (Call A R V W)
  calls before us = domain_calls s before us

  pub nth_domain_call : (before us : List Uplink) (k : ℕ) → slice_get (calls before us) k ≡ option_map (domain_call s (before ++ take k us)) (slice_get us k)
  nth_domain_call before [] k = refl
  nth_domain_call before (u ∷ us) zero = rw append-nil
  nth_domain_call before (u ∷ us) (suc k) = nth_domain_call (before ++ (u ∷ [])) us k ∙ ap (λ (l : List Uplink). option_map (domain_call s l) (slice_get us k)) (append_assoc before (u ∷ []) (take k us))

  pub domain_line : (k : ℕ) (o : Option Uplink) → o ≡ slice_get s.domains k → option_map (domain_call s (take k s.domains)) o ≡ slice_get (calls [] s.domains) k
  domain_line k o is = ap (option_map (domain_call s (take k s.domains))) is ∙ sym (nth_domain_call [] s.domains k)

  module _ (k : ℕ) (u : Uplink) (here : Some u ≡ slice_get s.domains k) where
    line_if : (b : Bool) → some_below (take k s.domains) u.node ≡ b → Some (if b then Branch u.node u.interface else Attach (hook s u.node).node (hook s u.node).interface u.interface Discard) ≡ slice_get (calls [] s.domains) k
    line_if b is = ap (λ x. Some (if x then Branch u.node u.interface else Attach (hook s u.node).node (hook s u.node).interface u.interface Discard)) (sym is) ∙ domain_line k (Some u) here

    pub branch_line : some_below (take k s.domains) u.node ≡ true → Some (Branch u.node u.interface) ≡ slice_get (calls [] s.domains) k
    branch_line = line_if true

    pub attach_line : some_below (take k s.domains) u.node ≡ false → Some (Attach (hook s u.node).node (hook s u.node).interface u.interface Discard) ≡ slice_get (calls [] s.domains) k
    attach_line = line_if false

  pub length_domain_calls : (before us : List Uplink) → length (calls before us) ≡ length us
  length_domain_calls before [] = refl
  length_domain_calls before (u ∷ us) = ap suc (length_domain_calls (before ++ (u ∷ [])) us)

-- what the table of a tree says of the domain of line k
pub domain_read : (s : Shape) (k : ℕ) → k < length s.domains → (o : Option Uplink) → MatchOption o ((f i : ℕ) → Lies s (k + 1) f i → ⊥) (λ u. Lies s (k + 1) u.node u.interface) → o ≡ slice_get s.domains k
domain_read s k there None none = let (u, at) = nth_some s.domains k there in absurd (none u.node u.interface (k, omega arith, at))
domain_read s k there (Some u) (j, is, at) = let same : j ≡ k = omega arith in sym at ∙ ap (slice_get s.domains) same

-- that a domain lies below firewall f, asked line by line
pub asked_below : (us : List Uplink) (f n a : ℕ) → a + n ≤ length us → list_any (λ k. node_at us k == f) (range_with_len a n) ≡ some_below (take n (drop a us)) f
asked_below us f zero a within = refl
asked_below us f (suc n) a within =
    ap (λ b. (node_at us a == f) || b) (asked_below us f n (a + 1) (omega arith))
    ∙ ap (λ l. some_below (take (suc n) l) f) (sym (drop_more us a no_uplink (omega arith)))
