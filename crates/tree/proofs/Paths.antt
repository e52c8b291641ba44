-- How one goes along a route: hop by hop, as long as there is a next one.
use Rattle.std.proofs.Common.{◌≡◌, ℕ, zero, suc, ◌<◌, inl, inr, refl, List, [], ◌∷◌, ◌++◌, length, Some, None, sym, ap, subst, append_assoc, append-nil, arith, length-append}
use native.Mathlib.Decide.{ℕ_discrete, dec_le}
use Rattle.std.specs.List.{slice_get}
use Rattle.kinds.proofs.Provided.{none_some}
use Rattle.search.specs.First.{First, Before, Nowhere}
use Rattle.model.specs.Shape.{Shape, Domain, Route, Sound}
use Rattle.model.specs.Subtree.{Way}
use Rattle.model.specs.declared.path.Hop.{Hop}
use Rattle.model.proofs.Subtrees.{joined_domain, walk_domains}
use Rattle.model.proofs.Routes.{route_rest, route_one, route_exists, way_first}
use Rattle.model.proofs.Lengths.{route_short}
use Rattle.model.proofs.Rows.{nth_push}
use Rattle.tree.specs.Path.{NextHopOf}

-- the hops that were gone lead from u to at, and on along the route to v
pub record Along (s : Shape) (u v : ℕ) (gone : List Hop) (at : ℕ) : Type 0 where
  pub there : Domain s u → Domain s at
  pub onward : (hs : List Hop) → Route s at v hs → Route s u v (gone ++ hs)

-- the same, and none of these hops fits
pub record Passed (s : Shape) (u v : ℕ) (fits : Hop → Type 0) (at : ℕ) : Type 0 where
  pub gone : List Hop
  pub along : Along s u v gone at
  pub none : Nowhere fits gone

-- the first of a list that fits, where none before it does
module _ {X : Type 0} (fits : X → Type 0) where
  nowhere_last : (xs : List X) (x : X) → Nowhere fits xs → (fits x → ⊥) → Nowhere fits (xs ++ (x ∷ []))
  nowhere_last xs x none not k y at = elim (nth_push xs x y k at) [
    | inl old ↦ none k y old
    | inr (_, is) ↦ subst (λ z. fits z → ⊥) (sym is) not
  ]

  before_after : (xs ys : List X) → Nowhere fits xs → Before fits (xs ++ ys) (length xs)
  before_after [] ys none k y less at = absurd (omega arith)
  before_after (w ∷ xs) ys none zero y less at = none 0 y at
  before_after (w ∷ xs) ys none (suc k) y less at = before_after xs ys (λ m. none (suc m)) k y (omega arith) at

  here_after : (xs : List X) (x : X) (ys : List X) → slice_get (xs ++ (x ∷ ys)) (length xs) ≡ Some x
  here_after [] x ys = refl
  here_after (w ∷ xs) x ys = here_after xs x ys

  first_after : (xs : List X) (x : X) (ys : List X) → Nowhere fits xs → fits x → First fits (xs ++ (x ∷ ys)) (length xs) x
  first_after xs x ys none fit = record { here = here_after xs x ys; fit = fit; before = before_after xs (x ∷ ys) none }

module _ (s : Shape) (ok : Sound s) where
  -- the hop on the way is the next one
  pub way_next : (u v : ℕ) (h : Hop) → Domain s u → Domain s v → Way s u v h → NextHopOf s u v (Some h)
  way_next u v h in-u in-v way =
      let (hs, route) = route_exists s ok u v in-u in-v in
      let (ks, is, rest) = way_first s ok u v h hs way route in
      (ks, subst (Route s u v) is route)

  -- how many hops of the route from u to v there are
  left_of : (u v : ℕ) → Dec (Domain s u) → Dec (Domain s v) → ℕ
  left_of u v (yes in-u) (yes in-v) = length (route_exists s ok u v in-u in-v).0
  left_of u v (yes in-u) (no out) = 0
  left_of u v (no out) b = 0

  pub hops_left : ℕ → ℕ → ℕ
  hops_left u v = left_of u v (dec_le u (length s.domains)) (dec_le v (length s.domains))

  left_is : (u v : ℕ) (a : Dec (Domain s u)) (b : Dec (Domain s v)) (hs : List Hop) → Domain s u → Domain s v → Route s u v hs → left_of u v a b ≡ length hs
  unfolding left_of
  left_is u v (yes in-u) (yes in-v) hs here there route = let (ks, other) = route_exists s ok u v in-u in-v in ap length (route_one s ok u v ks hs other route)
  left_is u v (yes in-u) (no out) hs here there route = absurd (out there)
  left_is u v (no out) b hs here there route = absurd (out here)

  pub left_less : (u v : ℕ) (h : Hop) → NextHopOf s u v (Some h) → hops_left h.reached v < hops_left u v
  unfolding hops_left
  left_less u v h (hs, route) =
      let (here, there) = walk_domains s ok u v h hs route.walk in
      let next = joined_domain s ok h.firewall h.reached h.left route.walk.1 in
      let all = left_is u v (dec_le u (length s.domains)) (dec_le v (length s.domains)) (h ∷ hs) here there route in
      let rest = left_is h.reached v (dec_le h.reached (length s.domains)) (dec_le v (length s.domains)) hs next there (route_rest s u v h hs route) in
      omega arith

  module _ (u v : ℕ) where
    pub along_start : Along s u v [] u
    along_start = record { there = λ d. d; onward = λ hs route. route }

    module _ (gone : List Hop) (at : ℕ) (along : Along s u v gone at) where
      -- there is room for the next hop
      pub along_room : (h : Hop) → NextHopOf s at v (Some h) → length gone < length s.firewalls
      along_room h (hs, route) =
          let short = route_short s ok u v (gone ++ (h ∷ hs)) (along.onward (h ∷ hs) route) in
          let size = length-append gone (h ∷ hs) in
          omega arith

      pub along_next : (h : Hop) → NextHopOf s at v (Some h) → Along s u v (gone ++ (h ∷ [])) h.reached
      along_next h (hs, route) = record {
        there = λ _. joined_domain s ok h.firewall h.reached h.left route.walk.1;
        onward = λ ks rest.
            let same = route_one s ok h.reached v hs ks (route_rest s at v h hs route) rest in
            subst (Route s u v) (sym (append_assoc gone (h ∷ []) ks)) (along.onward (h ∷ ks) (subst (λ (l : List Hop). Route s at v (h ∷ l)) same route));
      }

      -- where there is none, one has arrived
      pub along_end : NextHopOf s at v None → Domain s u → Domain s v → Route s u v gone
      along_end none in-u in-v = elim (ℕ_discrete at v) [
        | yes same ↦ subst (Route s u v) (append-nil gone) (along.onward [] (record { walk = same; firewalls_once = tt; domains_once = (tt, tt) }))
        | no other ↦ absurd (none (along.there in-u, in-v, other))
      ]

    module _ (fits : Hop → Type 0) where
      pub passed_start : Passed s u v fits u
      passed_start = record { gone = []; along = along_start; none = λ k h at. none_some at }

      module _ (at : ℕ) (passed : Passed s u v fits at) where
        pub passed_next : (h : Hop) → NextHopOf s at v (Some h) → (fits h → ⊥) → Passed s u v fits h.reached
        passed_next h next not = record {
          gone = passed.gone ++ (h ∷ []);
          along = along_next passed.gone at passed.along h next;
          none = nowhere_last fits passed.gone h passed.none not;
        }

        pub passed_found : (h : Hop) → NextHopOf s at v (Some h) → fits h → (hs : List Hop) × (k : ℕ) × Route s u v hs × First fits hs k h
        passed_found h (hs, route) fit =
            (passed.gone ++ (h ∷ hs), length passed.gone, passed.along.onward (h ∷ hs) route, first_after fits passed.gone h hs passed.none fit)

        pub passed_end : NextHopOf s at v None → (hs : List Hop) → Route s u v hs → Nowhere fits hs
        passed_end none [] route = λ k h at. none_some at
        passed_end none (h ∷ hs) route =
            let (in-u, in-v) = walk_domains s ok u v h hs route.walk in
            let gone = along_end passed.gone at passed.along none in-u in-v in
            subst (Nowhere fits) (route_one s ok u v passed.gone (h ∷ hs) gone route) passed.none
