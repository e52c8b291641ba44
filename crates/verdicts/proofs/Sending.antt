-- What becomes of packets in the lists of a route.
use Rattle.std.proofs.Common.{◌≡◌, ℕ, List, map, Some, None, Option, sym, refl, ap, ◌∙◌, subst, subst₂, inl, inr, arith}
use Rattle.std.specs.List.{slice_get}
use Rattle.kinds.specs.declared.pair.Pair.{Pair}
use Rattle.kinds.specs.declared.set.SetRow.{SetRow}
use Rattle.search.specs.First.{First, Nowhere}
use Rattle.search.specs.List.{Says}
use Rattle.search.specs.declared.list.Entry.{Entry}
use Rattle.search.specs.declared.list.Match.{Match}
use Rattle.search.proofs.Walks.{first_one, matched}
use Rattle.model.specs.Packets.{Decided, Discarded, decision_number, entering, value_of}
use Rattle.model.specs.Properties.{Of}
use Rattle.model.specs.Record.{Stops, Way, Sent}
use Rattle.model.specs.Shape.{Shape, Domain, Route, Sound}
use Rattle.model.specs.Tree.{Tree, Block, rules_of}
use Rattle.model.specs.declared.path.Hop.{Hop}
use Rattle.model.specs.declared.rules.Decision.TheVariants.{Discard}
use Rattle.model.specs.declared.rules.Header.{Header}
use Rattle.model.specs.declared.rules.Packet.{Packet}
use Rattle.model.specs.declared.rules.Rule.{Rule}
use Rattle.model.proofs.Routes.{route_exists}
use Rattle.checks.specs.Rows.{rule_entry}
use Rattle.checks.proofs.Lists.{Rows, says_decided, decided_says, says_unmatched}
use Rattle.verdicts.specs.Passage.{passage_answer}

-- the rows `es` of a list say whether it discards a packet
module _ {A R V W X Y : Type 0} (addr : A → V → Type 0) (rests : R → W → Type 0) (pa : A → X) (pr : R → Y) (ra : X → Option A) (rr : Y → Option R)
    (reads-a : (x : A) → ra (pa x) ≡ Some x) (reads-r : (x : R) → rr (pr x) ≡ Some x) (rs : List (Rule A R)) (k : Packet V W)
    (es : List (Entry (Pair SetRow (Pair X (Pair X Y))))) (is : es ≡ map (rule_entry pa pr) rs) (v : Pair ℕ (Pair V (Pair V W))) (piled : v ≡ value_of k) where
  abbrev Tells : List (Entry (Pair SetRow (Pair X (Pair X Y)))) → Pair ℕ (Pair V (Pair V W)) → Option Match → Type 0
  Tells l x m = Says (Rows addr rests pa pr ra rr reads-a reads-r) l x m

  told_of : (m : Option Match) → Tells es v m → Tells (map (rule_entry pa pr) rs) (value_of k) m
  told_of m told = subst₂ (λ l x. Tells l x m) is piled told

  pub discards : (m : Match) → Tells es v (Some m) → m.outcome ≡ decision_number Discard → Decided addr rests rs k m.position Discard
  discards m told same = says_decided addr rests pa pr ra rr reads-a reads-r rs k m.position Discard (subst (λ o. Tells (map (rule_entry pa pr) rs) (value_of k) (matched m.position o)) same (told_of (Some m) told))

  -- the first row that holds the packet has another outcome
  pub discards_not : (m : Match) → Tells es v (Some m) → (m.outcome ≡ decision_number Discard → ⊥) → Discarded addr rests rs k → ⊥
  discards_not m told other (n, decided) =
      let (x, first, is-o) = told_of (Some m) told in
      let (y, also, is-discard) = decided_says addr rests pa pr ra rr reads-a reads-r rs k n Discard decided in
      let same = first_one _ (map (rule_entry pa pr) rs) m.position n x y first also in
      other (sym is-o ∙ ap (λ (e : Entry (Pair SetRow (Pair X (Pair X Y)))). e.outcome) same.1 ∙ is-discard)

  pub unmatched_not : Tells es v None → Discarded addr rests rs k → ⊥
  unmatched_not told (m, (r, first, is-discard)) =
      says_unmatched addr rests pa pr ra rr reads-a reads-r rs k (told_of None told) m r first.here first.fit

module _ {A R V W : Type 0} (addr : A → V → Type 0) (rests : R → W → Type 0) (t : Tree A R) where
  -- the domain of an address is one that there is, where those of the blocks are
  of_domain : ((k : ℕ) (b : Block A) → slice_get t.blocks k ≡ Some b → Domain t.shape b.domain) → (v : V) (d : ℕ) → Of addr rests t v d → Domain t.shape d
  of_domain there v d (inl (k, b, at, held, is)) = subst (Domain t.shape) is (there k b at)
  of_domain there v d (inr (none, _)) = omega arith

  -- what becomes of the header along its way
  module _ (h : Header V W) (u v : ℕ) (from : Of addr rests t h.source u) (to : Of addr rests t h.destination v) (s : Shape) (is : s ≡ t.shape) where
    way_on : (hs : List Hop) → Route s u v hs → Way addr rests t h hs
    way_on hs route = record { u = u; v = v; from = from; to = to; route = subst (λ x. Route x u v hs) is route }

    pub sent_stopped : (p : Hop) (k : ℕ) → Decided addr rests (rules_of t p.firewall) (entering h p.entered) k Discard → (hs : List Hop) × (n : ℕ) × Route s u v hs × First (Stops addr rests t h) hs n p
        → Sent addr rests t h (passage_answer (Some (record { firewall = p.firewall; position = k })))
    sent_stopped p k decided (hs, n, route, first) = (hs, n, p, way_on hs route, first, refl, decided)

    pub sent_passed : Sound s → ((k : ℕ) (b : Block A) → slice_get t.blocks k ≡ Some b → Domain t.shape b.domain) → ((hs : List Hop) → Route s u v hs → Nowhere (Stops addr rests t h) hs) → Sent addr rests t h (passage_answer None)
    sent_passed ok there none =
        let in-u = subst (λ x. Domain x u) (sym is) (of_domain there h.source u from) in
        let in-v = subst (λ x. Domain x v) (sym is) (of_domain there h.destination v to) in
        let (hs, route) = route_exists s ok u v in-u in-v in
        (hs, way_on hs route, none hs route)
