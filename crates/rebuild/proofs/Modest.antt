-- The calls of a listing are modest, and there are not too many.
use Rattle.std.proofs.Common.{◌≡◌, ℕ, suc, ◌+◌, ◌<◌, ◌≤◌, Bool, true, false, List, [], ◌∷◌, ◌++◌, map, length, if◌then◌else◌, Some, None, Option, unwrap_or, refl, ap, inl, inr, arith, length-append}
use Rattle.std.proofs.lemmas.List.{length-map}
use Rattle.std.specs.List.{slice_get}
use Rattle.kinds.specs.Words.{Inside}
use Rattle.model.specs.Limits.{max_domains, max_interfaces, max_list, max_blocks, max_rules, max_properties}
use Rattle.model.specs.Refusals.{RuleInside}
use Rattle.model.specs.Shape.{Shape}
use Rattle.model.specs.Tree.{Tree, Block, start, count_rules}
use Rattle.model.specs.declared.calls.Call.TheVariants.{Attach, Branch}
use Rattle.model.specs.declared.path.Uplink.{Uplink}
use Rattle.model.specs.declared.rules.Decision.TheVariants.{Discard}
use Rattle.model.specs.declared.rules.Rule.{Rule}
use Rattle.model.proofs.Grown.{Grown}
use Rattle.search.proofs.Positions.{nth_within}
use Rattle.rebuild.specs.Again.{Modest}
use Rattle.rebuild.specs.Listing.{listing, some_below, hook, domain_call, domain_calls, block_call, rule_call, rule_calls, list_calls, property_call}
use Rattle.rebuild.proofs.Each.{Each, each_none, each_more}
use Rattle.rebuild.proofs.Order.{in_order_few}
use Rattle.rebuild.proofs.Regular.{Fit, Offered, Regular}

each_append : {X : Type 0} (holds : X → Type 0) (xs ys : List X) → Each holds xs → Each holds ys → Each holds (xs ++ ys)
each_append holds [] ys each more = more
each_append holds (x ∷ xs) ys each more = each_more holds x (xs ++ ys) (each 0 x refl) (each_append holds xs ys (λ k. each (suc k)) more)

each_map : {X Y : Type 0} (f : X → Y) (holds : X → Type 0) (held : Y → Type 0) (xs : List X) → ((x : X) → holds x → held (f x)) → Each holds xs → Each held (map f xs)
each_map f holds held [] go each = each_none held
each_map f holds held (x ∷ xs) go each = each_more held (f x) (map f xs) (go x (each 0 x refl)) (each_map f holds held xs go (λ k. each (suc k)))

-- an uplink to a node and by an interface that there can be
abbrev LowLink : Uplink → Type 0
LowLink u = (u.node < max_domains) × (u.interface < max_interfaces)

low_hook : (s : Shape) (f : ℕ) → Each LowLink s.firewalls → LowLink (hook s f)
low_hook s f low = found (slice_get s.firewalls f) refl
  where
    found : (o : Option Uplink) → slice_get s.firewalls f ≡ o → LowLink (unwrap_or o (record { node = 0; interface = 0 }))
    found None e = (omega arith, omega arith)
    found (Some u) e = low f u e

module _ {A R V W : Type 0} (addr : A → V → Type 0) (rests : R → W → Type 0) (a : A) (r : R) where
  domain_modest : (b : Bool) (up u : Uplink) → LowLink up → LowLink u → Modest {V = V} {W = W} addr rests a r (if b then Branch u.node u.interface else Attach up.node up.interface u.interface Discard)
  domain_modest true up u above low = low
  domain_modest false up u above low = (above.0, above.1, low.1)

  domains_modest : (s : Shape) (before later : List Uplink) → Each LowLink s.firewalls → Each LowLink later → Each (Modest {V = V} {W = W} addr rests a r) (domain_calls s before later)
  domains_modest s before [] above low = each_none _
  domains_modest s before (u ∷ later) above low =
      each_more _ (domain_call s before u) (domain_calls s (before ++ (u ∷ [])) later) (domain_modest (some_below before u.node) (hook s u.node) u (low_hook s u.node above) (low 0 u refl))
      (domains_modest s (before ++ (u ∷ [])) later above (λ k. low (suc k)))

  rule_modest : (f p : ℕ) (q : Rule A R) (behind : List (Rule A R)) → f < max_domains → p < max_list → RuleInside addr rests (start a r) q → Modest {V = V} {W = W} addr rests a r (rule_call f p q behind)
  rule_modest f p q [] low less inside = (low, less, inside)
  rule_modest f p q (n ∷ behind) low less inside = (low, less, inside)

  rules_modest : (f p : ℕ) (l : List (Rule A R)) → f < max_domains → p + length l ≤ max_list → Each (RuleInside addr rests (start a r)) l → Each (Modest {V = V} {W = W} addr rests a r) (rule_calls f p l)
  rules_modest f p [] low few inside = each_none _
  rules_modest f p (q ∷ l) low few inside =
      each_more _ (rule_call f p q l) (rule_calls f (suc p) l) (rule_modest f p q l low (omega arith) (inside 0 q refl)) (rules_modest f (suc p) l low (omega arith) (λ k. inside (suc k)))

  -- the firewalls and the domains of a tree hang by low links
  above_low : (t : Tree A R) → Grown addr rests t → Regular addr rests t → Each LowLink t.shape.firewalls
  above_low t grown regular k u at =
      let room = regular.shape.room in
      let hangs = grown.sound.hangs k u.node u.interface at in
      (omega arith, grown.sound.low k u.node u.interface (inl at))

  below_low : (t : Tree A R) → Grown addr rests t → Regular addr rests t → Each LowLink t.shape.domains
  below_low t grown regular k u at =
      let room = regular.shape.room in
      let (c, j, hangs, falls) = grown.sound.falls (suc k) u.node u.interface (k, refl, at) in
      let less = nth_within t.shape.firewalls u.node _ hangs in
      let few = in_order_few 0 _ t.shape.domains regular.shape.order in
      (omega arith, grown.sound.low u.node (suc k) u.interface (inr (k, refl, at)))

  lists_modest : (f : ℕ) (ls : List (List (Rule A R))) → f + length ls ≤ max_domains → Each (Fit addr rests a r) ls → Each (Modest {V = V} {W = W} addr rests a r) (list_calls f ls)
  lists_modest f [] few fit = each_none _
  lists_modest f (l ∷ ls) few fit =
      let first = fit 0 l refl in
      let short = first.few in
      each_append _ (rule_calls f 0 l) (list_calls (suc f) ls) (rules_modest f 0 l (omega arith) (omega arith) first.inside) (lists_modest (suc f) ls (omega arith) (λ k. fit (suc k)))

  domains_count : (s : Shape) (before later : List Uplink) → length (domain_calls {A = A} {R = R} {V = V} {W = W} s before later) ≡ length later
  domains_count s before [] = refl
  domains_count s before (u ∷ later) = ap suc (domains_count s (before ++ (u ∷ [])) later)

  rules_count : (f p : ℕ) (l : List (Rule A R)) → length (rule_calls {V = V} {W = W} f p l) ≡ length l
  rules_count f p [] = refl
  rules_count f p (q ∷ l) = ap suc (rules_count f (suc p) l)

  lists_count : (f : ℕ) (ls : List (List (Rule A R))) → length (list_calls {V = V} {W = W} f ls) ≡ count_rules ls
  lists_count f [] = refl
  lists_count f (l ∷ ls) = omega (arith, length-append (rule_calls {V = V} {W = W} f 0 l) (list_calls (suc f) ls), rules_count f 0 l, lists_count (suc f) ls)

module _ {A R V W : Type 0} (addr : A → V → Type 0) (rests : R → W → Type 0) (t : Tree A R) (grown : Grown addr rests t) (regular : Regular addr rests t) where
  pub listing_modest : Each (Modest {V = V} {W = W} addr rests t.addresses t.rests) (listing t)
  listing_modest =
      let is = Modest {V = V} {W = W} addr rests t.addresses t.rests in
      let room = regular.shape.room in
      let few = in_order_few 0 _ t.shape.domains regular.shape.order in
      let blocks = each_map block_call (λ (b : Block A). (b.domain < max_domains) × Inside (addr b.region) (addr t.addresses)) is t.blocks (λ b h. h)
      (λ k b at. let owned = grown.owned k b at in let there = owned.1 in (omega arith, regular.blocks.inside k b at)) in
      let properties = each_map property_call (Offered addr rests t.addresses t.rests t.shape) is t.properties
      (λ p o. let from = o.from in let to = o.to in (omega arith, omega arith, o.inside)) regular.properties.offered in
      each_append is (domain_calls t.shape [] t.shape.domains) _ (domains_modest addr rests t.addresses t.rests t.shape [] t.shape.domains (above_low addr rests t.addresses t.rests t grown regular) (below_low addr rests t.addresses t.rests t grown regular))
      (each_append is (map block_call t.blocks) _ blocks
      (each_append is (list_calls 0 t.lists) _ (lists_modest addr rests t.addresses t.rests 0 t.lists (omega (arith, grown.lists)) regular.lists.fit) properties))

  pub listing_few : length (listing {V = V} {W = W} t) < max_domains + max_blocks + max_rules + max_properties
  listing_few =
      let domains = domain_calls {A = A} {R = R} {V = V} {W = W} t.shape [] t.shape.domains in
      let blocks = map (block_call {R = R} {V = V} {W = W}) t.blocks in
      let lists = list_calls {V = V} {W = W} 0 t.lists in
      let properties = map (property_call {V = V} {W = W}) t.properties in
      let room = regular.shape.room in
      let block_room = regular.blocks.room in
      let rule_room = regular.lists.room in
      let property_room = regular.properties.room in
      omega (
        arith,
        length-append domains (blocks ++ (lists ++ properties)),
        length-append blocks (lists ++ properties),
        length-append lists properties,
        domains_count addr rests t.addresses t.rests t.shape [] t.shape.domains,
        length-map t.blocks (block_call {R = R} {V = V} {W = W}),
        lists_count addr rests t.addresses t.rests 0 t.lists,
        length-map t.properties (property_call {V = V} {W = W}),
      )
