-- The calls that make the domains of a tree again, with its firewalls.
use Rattle.std.proofs.Common.{◌≡◌, ℕ, suc, ◌<◌, ◌≤◌, List, [], ◌∷◌, ◌++◌, length, Some, Option, unwrap_or, if◌then◌else◌, sym, refl, ap, ◌∙◌, subst, inl, inr, arith, append_assoc, length-append}
use Rattle.std.proofs.lemmas.List.{append-nil, length_push}
use Rattle.std.specs.List.{slice_get}
use Rattle.search.proofs.Positions.{nth_within}
use Rattle.model.specs.Limits.{max_rules, max_domains, max_interfaces}
use Rattle.model.specs.Shape.{Shape, Hangs, Lies, Joined, Sound}
use Rattle.model.specs.Tree.{Tree, count_rules, whole_rule, start, after}
use Rattle.model.specs.declared.calls.Call.TheVariants.{Attach, Branch}
use Rattle.model.specs.declared.path.Uplink.{Uplink}
use Rattle.model.specs.declared.rules.Decision.TheVariants.{Discard}
use Rattle.model.specs.declared.rules.Rule.{Rule}
use Rattle.model.proofs.Growth.{nth_old}
use Rattle.model.proofs.Subtrees.{hangs_one}
use Rattle.rebuild.specs.Again.{Accepted}
use Rattle.rebuild.specs.Listing.{hook, domain_call, domain_calls}
use Rattle.rebuild.proofs.Accepting.{accepted_attach, accepted_branch}
use Rattle.rebuild.proofs.Behind.{nth_behind}
use Rattle.rebuild.proofs.Leads.{Leads, leads_by}
use Rattle.rebuild.proofs.Order.{InOrder, Below, below_none, below_old, below_next}

-- for each of these firewalls a list of the rule w alone
abbrev pub seeds : {A R : Type 0} → Rule A R → List Uplink → List (List (Rule A R))
seeds w [] = []
seeds w (h ∷ made) = (w ∷ []) ∷ seeds w made

seeds_push : {A R : Type 0} (w : Rule A R) (made : List Uplink) (h : Uplink) → seeds w made ++ ((w ∷ []) ∷ []) ≡ seeds w (made ++ (h ∷ []))
seeds_push w [] h = refl
seeds_push w (g ∷ made) h = ap (λ ls. (w ∷ []) ∷ ls) (seeds_push w made h)

pub seeds_count : {A R : Type 0} (w : Rule A R) (made : List Uplink) → count_rules (seeds w made) ≡ length made
seeds_count w [] = refl
seeds_count w (h ∷ made) = omega (arith, seeds_count w made)

-- these firewalls and domains alone, with the wholes of t, and each list as it begins
abbrev pub begun : {A R : Type 0} → Tree A R → List Uplink → List Uplink → Tree A R
begun t made before = record { addresses = t.addresses; rests = t.rests; shape = record { firewalls = made; domains = before }; lists = seeds (whole_rule t Discard) made; blocks = []; properties = [] }

module _ (s : Shape) (sound : Sound s) (before : List Uplink) (u : Uplink) (later : List Uplink) (d : s.domains ≡ before ++ (u ∷ later)) where
  -- the next domain lies below its firewall
  next_lies : Lies s (suc (length before)) u.node u.interface
  next_lies = (length before, refl, ap (λ us. slice_get us (length before)) d ∙ nth_behind before u later)

  next_joined : Joined s u.node (suc (length before)) u.interface
  next_joined = inr next_lies

  -- which hangs below a domain made before
  hook_below : (c j : ℕ) → Hangs s u.node c j → c ≤ length before
  hook_below c j hangs =
      let (b, i, also, less) = sound.falls (suc (length before)) u.node u.interface next_lies in
      let same = hangs_one s u.node c j b i hangs also in
      omega (arith, same.0)

  -- so by its interface the firewall is joined to nothing made before
  next_free : (made left : List Uplink) → s.firewalls ≡ made ++ left → (c : ℕ) → Joined (record { firewalls = made; domains = before }) u.node c u.interface → ⊥
  next_free made left e c (inl hangs) =
      let also : Hangs s u.node c u.interface = ap (λ us. slice_get us u.node) e ∙ nth_old made left u.node _ hangs in
      let low = hook_below c u.interface also in
      let same = sound.one u.node c (suc (length before)) u.interface (inl also) next_joined in
      omega arith
  next_free made left e c (inr (k, is, at)) =
      let also : Lies s c u.node u.interface = (k, is, ap (λ us. slice_get us k) d ∙ nth_old before (u ∷ later) k _ at) in
      let less = nth_within before k _ at in
      let same = sound.one u.node c (suc (length before)) u.interface (inr also) next_joined in
      omega arith

-- where as many are made as there are, all are
all_made : {X : Type 0} (xs made left : List X) → xs ≡ made ++ left → length made ≡ length xs → made ≡ xs
all_made xs made [] e count = sym (append-nil made) ∙ sym e
all_made xs made (x ∷ left) e count = absurd (omega (arith, ap length e, length-append made (x ∷ left)))

branch_call : {A R V W : Type 0} (s : Shape) (before : List Uplink) (u : Uplink) (n : ℕ) → u.node < n → Below before n → domain_call {A = A} {R = R} {V = V} {W = W} s before u ≡ Branch u.node u.interface
branch_call s before u n old below = ap (λ b. if b then Branch u.node u.interface else Attach (hook s u.node).node (hook s u.node).interface u.interface Discard) (below.some u.node old)

attach_call : {A R V W : Type 0} (s : Shape) (before : List Uplink) (u : Uplink) (n : ℕ) (h : Uplink) → u.node ≡ n → slice_get s.firewalls u.node ≡ Some h → Below before n
    → domain_call {A = A} {R = R} {V = V} {W = W} s before u ≡ Attach h.node h.interface u.interface Discard
attach_call s before u n h next at below =
    ap (λ b. if b then Branch u.node u.interface else Attach (hook s u.node).node (hook s u.node).interface u.interface Discard) (below.none u.node (omega arith))
    ∙ ap (λ (o : Option Uplink). Attach (unwrap_or o (record { node = 0; interface = 0 })).node (unwrap_or o (record { node = 0; interface = 0 })).interface u.interface Discard) at

module _ {A R V W : Type 0} (addr : A → V → Type 0) (rests : R → W → Type 0) (t : Tree A R) (sound : Sound t.shape) (few : length t.shape.domains < max_domains)
    (few-firewalls : length t.shape.firewalls ≤ max_rules) where
  -- what an attach makes of them
  attach_makes : (made before : List Uplink) (h u : Uplink) → u.node ≡ length made
      → after {V = V} {W = W} (begun t made before) (Attach h.node h.interface u.interface Discard) ≡ begun t (made ++ (h ∷ [])) (before ++ (u ∷ []))
  attach_makes made before h u next = λ i. record {
    addresses = t.addresses;
    rests = t.rests;
    shape = record { firewalls = made ++ (h ∷ []); domains = before ++ (record { node = sym next i; interface = u.interface } ∷ []) };
    lists = seeds_push (whole_rule t Discard) made h i;
    blocks = [];
    properties = [];
  }

  module _ (made left before : List Uplink) (u : Uplink) (later : List Uplink) (e : t.shape.firewalls ≡ made ++ left) (d : t.shape.domains ≡ before ++ (u ∷ later)) where
    room : suc (length before) < max_domains
    room = omega (arith, ap length d, length-append before (u ∷ later))

    low : u.interface < max_interfaces
    low = sound.low u.node (suc (length before)) u.interface (next_joined t.shape sound before u later d)

    branch_accepted : u.node < length made → Accepted {V = V} {W = W} addr rests (begun t made before) (Branch u.node u.interface)
    branch_accepted old = accepted_branch addr rests (begun t made before) u.node u.interface old low (next_free t.shape sound before u later d made left e) room

    attach_accepted : (h : Uplink) → slice_get t.shape.firewalls u.node ≡ Some h → length made < max_rules → Accepted {V = V} {W = W} addr rests (begun t made before) (Attach h.node h.interface u.interface Discard)
    attach_accepted h hangs rules =
        let joined = next_joined t.shape sound before u later d in
        let below = hook_below t.shape sound before u later d h.node h.interface hangs in
        accepted_attach addr rests (begun t made before) h.node h.interface u.interface Discard below (sound.low u.node h.node h.interface (inl hangs)) low
        (λ same. let one = sound.one u.node h.node (suc (length before)) u.interface (subst (Joined t.shape u.node h.node) same (inl hangs)) joined in omega arith)
        room (omega (arith, seeds_count (whole_rule t Discard) made))

  -- where the first of the domains and of the firewalls are made, the calls for the later domains make the rest
  domains_lead : (n : ℕ) (made left before later : List Uplink) → length made ≡ n → t.shape.firewalls ≡ made ++ left → t.shape.domains ≡ before ++ later → InOrder n later (length t.shape.firewalls)
      → Below before n → Leads {V = V} {W = W} addr rests (begun t made before) (domain_calls t.shape before later) (begun t t.shape.firewalls t.shape.domains)
  domains_lead n made left before [] count e d order below = λ i. begun t (all_made t.shape.firewalls made left e (omega arith) i) ((sym (append-nil before) ∙ sym d) i)
  domains_lead n made left before (u ∷ later) count e d (inl (old, order)) below =
      leads_by addr rests (begun t made before) (begun t made (before ++ (u ∷ []))) _ _ _ _ (branch_call t.shape before u n old below)
      (branch_accepted made left before u later e d (omega arith)) refl
      (domains_lead n made left (before ++ (u ∷ [])) later count e (d ∙ sym (append_assoc before (u ∷ []) later)) order (below_old before u n old below))
  domains_lead n made [] before (u ∷ later) count e d (inr (next, order)) below =
      let (c, j, hangs, less) = sound.falls (suc (length before)) u.node u.interface (next_lies t.shape sound before u later d) in
      absurd (omega (arith, nth_within t.shape.firewalls u.node _ hangs, ap length e, length-append made []))
  domains_lead n made (h ∷ left) before (u ∷ later) count e d (inr (next, order)) below =
      let at : slice_get t.shape.firewalls u.node ≡ Some h = ap (slice_get t.shape.firewalls) (next ∙ sym count) ∙ ap (λ us. slice_get us (length made)) e ∙ nth_behind made h left in
      leads_by addr rests (begun t made before) (begun t (made ++ (h ∷ [])) (before ++ (u ∷ []))) _ _ _ _ (attach_call t.shape before u n h next at below)
      (attach_accepted made (h ∷ left) before u later e d h at (omega (arith, ap length e, length-append made (h ∷ left))))
      (attach_makes made before h u (next ∙ sym count))
      (domains_lead (suc n) (made ++ (h ∷ [])) left (before ++ (u ∷ [])) later (omega (arith, length_push made h)) (e ∙ sym (append_assoc made (h ∷ []) left))
      (d ∙ sym (append_assoc before (u ∷ []) later)) order (below_next before u n next below))

  -- from domain 0 alone they make all domains and firewalls
  pub domains_built : InOrder 0 t.shape.domains (length t.shape.firewalls) → Leads {V = V} {W = W} addr rests (start t.addresses t.rests) (domain_calls t.shape [] t.shape.domains) (begun t t.shape.firewalls t.shape.domains)
  domains_built order = domains_lead 0 [] t.shape.firewalls [] t.shape.domains refl refl refl order below_none
