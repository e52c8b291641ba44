-- The samples of the answers hold.
use Rattle.std.proofs.Common.{◌≡◌, ℕ, ◌<◌, ◌≤◌, List, [], ◌∷◌, Some, sym, refl, ap, subst, inl, inr, arith}
use Rattle.std.specs.List.{slice_get}
use Rattle.forms.specs.Range.{range_holds}
use Rattle.forms.specs.declared.range.Range.{Range}
use Rattle.kinds.proofs.Provided.{none_some}
use Rattle.search.proofs.Positions.{before_none, before_more, before_all}
use Rattle.examples.specs.Examples.{range}
use Rattle.model.specs.Packets.{Matches, Decided, Accepted, Discarded}
use Rattle.model.specs.Properties.{BreaksIn, BreaksAt, BreaksFirst}
use Rattle.model.specs.Record.{Way, Stops}
use Rattle.model.specs.Refusals.{number}
use Rattle.examples.specs.Samples.{Answering, Asking, Sending, Recording, Effects, World, Refuses, whole, rule, property, packet, header, alone, one, owned, sieved, outward, inward, closed, chain, below, deep, downward, next}
use Rattle.model.specs.Shape.{Route, Sound}
use Rattle.model.specs.Tree.{Block}
use Rattle.model.specs.declared.answers.Refusal.{Refusal}
use Rattle.model.specs.declared.answers.Refusal.TheVariants.{TooShort, NoSuch, BadInterface, Full, Outside, Overlap, Unjoined, SourceAstray, DestinationAstray, Unmatched, Misplaced, Breaks}
use Rattle.model.specs.declared.calls.Call.TheVariants.{Attach, Branch, Give, Stand}
use Rattle.model.specs.declared.path.Hop.{Hop}
use Rattle.model.specs.declared.rules.Decision.TheVariants.{Accept, Discard}
use Rattle.model.specs.declared.rules.Packet.{Packet}
use Rattle.model.specs.declared.rules.Property.{Property}
use Rattle.model.specs.declared.rules.Rule.{Rule}
use Rattle.model.proofs.Growth.{sound_attached}
use Rattle.model.proofs.Routes.{route_one}
use Rattle.examples.proofs.Sampled.{only_one, only_two, one_joined}
use Rattle.examples.proofs.SampledEdits.{owned_of, of_owner, of_zero, hop_in, route_in, sound_one, only_route, only_hop, first_break, decided_first, inward_broken, by_zero}

attach_none : (r : Refusal ℕ ℕ) → Refuses alone (Attach 0 0 1 Discard) r → ⊥
attach_none TooShort h = omega arith
attach_none NoSuch n = n (omega arith)
attach_none BadInterface h = omega arith
attach_none Full h = omega arith
attach_none Outside n = n tt
attach_none (Overlap b) h = h
attach_none Unjoined h = h
attach_none (SourceAstray a) h = h
attach_none (DestinationAstray a) h = h
attach_none (Unmatched k) h = h
attach_none (Misplaced n a) h = h
attach_none (Breaks n f k) h = h

branch_none : (r : Refusal ℕ ℕ) → Refuses one (Branch 0 2) r → ⊥
branch_none TooShort h = omega arith
branch_none NoSuch n = n (omega arith)
branch_none BadInterface h = elim h [ inl l ↦ omega arith | inr (d, j) ↦ let o = one_joined 0 d 2 j in omega arith ]
branch_none Full h = omega arith
branch_none Outside n = n tt
branch_none (Overlap b) h = h
branch_none Unjoined h = h
branch_none (SourceAstray a) h = h
branch_none (DestinationAstray a) h = h
branch_none (Unmatched k) h = h
branch_none (Misplaced n a) h = h
branch_none (Breaks n f k) h = h

give_none : (r : Refusal ℕ ℕ) → Refuses one (Give 1 (range 3 9 tt)) r → ⊥
give_none TooShort h = omega arith
give_none NoSuch h = elim h [ inl e ↦ omega arith | inr n ↦ n (omega arith) ]
give_none BadInterface h = h
give_none Full h = omega arith
give_none Outside n = n (λ v h. (omega arith, omega arith))
give_none (Overlap b) (y, f) = none_some f.here
give_none Unjoined h = h
give_none (SourceAstray a) h = h
give_none (DestinationAstray a) h = h
give_none (Unmatched k) h = h
give_none (Misplaced n a) (p, f, is) = none_some f.here
give_none (Breaks n f k) h = h

none_smaller : (q : Refusal ℕ ℕ) → number q < 2 → Refuses one (Attach 2 32 0 Accept) q → ⊥
none_smaller TooShort l h = omega arith
none_smaller NoSuch l h = omega arith
none_smaller BadInterface l h = omega arith
none_smaller Full l h = omega arith
none_smaller Outside l h = omega arith
none_smaller (Overlap b) l h = h
none_smaller Unjoined l h = h
none_smaller (SourceAstray a) l h = h
none_smaller (DestinationAstray a) l h = h
none_smaller (Unmatched k) l h = h
none_smaller (Misplaced n a) l h = h
none_smaller (Breaks n f k) l h = h

pub answering : Answering
answering = record {
  attach = (attach_none, refl);
  branch = (branch_none, refl);
  give = (give_none, refl);
  take = λ t b. refl;
  place = λ t f p r. refl;
  alter = λ t f p r. refl;
  lift = λ t f p. refl;
  stand = λ t p. refl;
  withdraw = λ t n. refl;
  smallest = (λ h. omega arith, none_smaller);
  not_smallest = λ (a, n). n NoSuch (omega arith) (λ h. omega arith);
  not_done = λ (n, s). n NoSuch (inl refl);
  not_refused = λ (a, n). omega arith;
}

-- a rule that discards everything accepts nothing
discards : (k : Packet ℕ ℕ) → Accepted range_holds range_holds (rule whole whole whole Discard ∷ []) k → ⊥
discards k (j, (r, f, e)) =
    let same = (only_one (rule whole whole whole Discard) r j f.here).1 in
    let d = ap (λ (x : Rule Range Range). x.decision) same in
    let z : ◌≡◌ {A = ℕ} 0 1 = cc in
    omega arith

-- 500-600 is accepted before all is discarded
passes : (k : Packet ℕ ℕ) → 500 ≤ k.source → k.source ≤ 600 → Discarded range_holds range_holds (rule (range 500 600 tt) whole whole Accept ∷ (rule whole whole whole Discard ∷ [])) k → ⊥
passes k low high (j, (r, f, e)) = elim (only_two (rule (range 500 600 tt) whole whole Accept) (rule whole whole whole Discard) r j f.here) [
  | inl (_, same) ↦ let d = ap (λ (x : Rule Range Range). x.decision) same in let z : ◌≡◌ {A = ℕ} 0 1 = cc in omega arith
  | inr (at, same) ↦
      let m = subst (λ (x : Rule Range Range). Matches range_holds range_holds x k) (sym same) f.fit in
      f.before 0 (rule (range 500 600 tt) whole whole Accept) (omega arith) refl (record { interface = m.interface; source = (low, high); destination = m.destination; rest = m.rest })
]

-- 601 is discarded by the second
stops_later : Decided range_holds range_holds (rule (range 500 600 tt) whole whole Accept ∷ (rule whole whole whole Discard ∷ [])) (packet 0 601 5 0) 1 Discard
stops_later = (
  rule whole whole whole Discard,
  record {
    here = refl;
    fit = record { interface = refl; source = (omega arith, omega arith); destination = (omega arith, omega arith); rest = (omega arith, omega arith) };
    before = before_more _ (rule (range 500 600 tt) whole whole Accept ∷ (rule whole whole whole Discard ∷ [])) 0 (rule (range 500 600 tt) whole whole Accept) refl
        (before_none _ (rule (range 500 600 tt) whole whole Accept ∷ (rule whole whole whole Discard ∷ []))) (λ m. let h = m.source in omega arith);
  },
  refl,
)

-- a break somewhere is one in the only hop
at_hop : (t : World) (p : Property Range Range) (f : ℕ) (k : Packet ℕ ℕ) → t.shape ≡ one.shape → p.from ≡ 0 → p.to ≡ 1 → BreaksAt range_holds range_holds t p f k → BreaksIn range_holds range_holds t p hop_in k
at_hop t p f k e u v b =
    let r = subst (λ x. Route one.shape 0 x b.hops) v (subst (λ x. Route one.shape x p.to b.hops) u (subst (λ s. Route s p.from p.to b.hops) e b.route)) in
    let same = only_hop b.hops b.place b.hop r b.on in
    subst (λ (h : Hop). BreaksIn range_holds range_holds t p h k) (sym same) b.breaks

somewhere : (t : World) (p : Property Range Range) (f : ℕ) (k : Packet ℕ ℕ) → BreaksFirst range_holds range_holds t p f k → BreaksAt range_holds range_holds t p f k
somewhere t p f k b = record { hops = b.hops; place = b.place; hop = b.hop; route = b.route; on = b.first.here; named = b.named; breaks = b.breaks }

-- a rule that accepts everything discards nothing
accepts : (k : Packet ℕ ℕ) → Discarded range_holds range_holds (rule whole whole whole Accept ∷ []) k → ⊥
accepts k (j, (r, f, e)) =
    let same = (only_one (rule whole whole whole Accept) r j f.here).1 in
    let d = ap (λ (x : Rule Range Range). x.decision) same in
    let z : ◌≡◌ {A = ℕ} 0 1 = cc in
    omega arith

-- the way out of domain 1
abbrev hop_out : Hop
hop_out = record { firewall = 0; entered = 1; left = 0; reached = 0 }

out_broken : BreaksIn range_holds range_holds owned outward hop_out (packet 1 5 550 0)
out_broken = record {
  source = (omega arith, omega arith);
  destination = (omega arith, omega arith);
  rest = (omega arith, omega arith);
  entered = refl;
  against = (0, decided_first Discard [] 1 5 550 0 (omega arith) (omega arith) (omega arith) (omega arith));
}

-- the way into domain 2
abbrev hop_down : Hop
hop_down = record { firewall = 1; entered = 2; left = 3; reached = 2 }

abbrev hops_down : List Hop
hops_down = hop_in ∷ (hop_down ∷ [])

route_down : Route chain.shape 0 2 hops_down
route_down = record { walk = (inl refl, inr (0, refl, refl), (inl refl, inr (1, refl, refl), refl)); firewalls_once = omega arith; domains_once = omega arith }

sound_chain : Sound chain.shape
sound_chain = sound_attached one.shape sound_one 1 2 3 (omega arith) (omega arith) (omega arith) (λ e. omega arith)

near_broken : BreaksIn range_holds range_holds below downward hop_in (packet 0 550 5 0)
near_broken = record {
  source = (omega arith, omega arith);
  destination = (omega arith, omega arith);
  rest = (omega arith, omega arith);
  entered = refl;
  against = (0, decided_first Discard [] 0 550 5 0 (omega arith) (omega arith) (omega arith) (omega arith));
}

far_broken : BreaksIn range_holds range_holds deep downward hop_down (packet 2 550 5 0)
far_broken = record {
  source = (omega arith, omega arith);
  destination = (omega arith, omega arith);
  rest = (omega arith, omega arith);
  entered = refl;
  against = (0, decided_first Discard [] 2 550 5 0 (omega arith) (omega arith) (omega arith) (omega arith));
}

not_far : (k : Packet ℕ ℕ) → BreaksFirst range_holds range_holds below downward 1 k → ⊥
not_far k b =
    let same = route_one chain.shape sound_chain 0 2 b.hops hops_down b.route route_down in
    elim (only_two hop_in hop_down b.hop b.place (subst (λ (l : List Hop). slice_get l b.place ≡ Some b.hop) same b.first.here)) [
      | inl (_, is) ↦ let f = ap (λ (h : Hop). h.firewall) is in let g = b.named in omega arith
      | inr (at, _) ↦ b.first.before 0 hop_in (omega arith) (ap (λ (l : List Hop). slice_get l 0) same) (packet 0 550 5 0, near_broken)
    ]

pub asking : Asking
asking = record {
  kept = λ f k b. discards k (at_hop owned closed f k refl refl refl b).against;
  broken = inward_broken owned refl refl;
  entered = λ b. let e = (by_zero owned inward 0 (packet 1 550 5 0) refl refl refl b).entered in omega arith;
  not_kept = λ n. n 0 (packet 0 550 5 0) (somewhere owned inward 0 (packet 0 550 5 0) (inward_broken owned refl refl));
  covered = λ f k b. let a = at_hop sieved inward f k refl refl refl b in passes k a.source.0 a.source.1 a.against;
  beyond = first_break sieved (property Accept 0 1 (range 500 601 tt) (range 3 9 tt)) (packet 0 601 5 0) route_in (record {
    source = (omega arith, omega arith);
    destination = (omega arith, omega arith);
    rest = (omega arith, omega arith);
    entered = refl;
    against = (1, stops_later);
  });
  upward = record {
    hops = hop_out ∷ [];
    place = 0;
    hop = hop_out;
    route = record { walk = (inr (0, refl, refl), inl refl, refl); firewalls_once = omega arith; domains_once = omega arith };
    first = record { here = refl; fit = (packet 1 5 550 0, out_broken); before = before_none _ (hop_out ∷ []) };
    named = refl;
    breaks = out_broken;
  };
  nearer = record {
    hops = hops_down;
    place = 0;
    hop = hop_in;
    route = route_down;
    first = record { here = refl; fit = (packet 0 550 5 0, near_broken); before = before_none _ hops_down };
    named = refl;
    breaks = near_broken;
  };
  not_farther = not_far;
  farther = record {
    hops = hops_down;
    place = 1;
    hop = hop_down;
    route = route_down;
    first = record { here = refl; fit = (packet 2 550 5 0, far_broken); before = before_more _ hops_down 0 hop_in refl (before_none _ hops_down) (λ (k, b). accepts k b.against) };
    named = refl;
    breaks = far_broken;
  };
  neither = λ rs k n. (λ (j, (r, f, e)). n j r f.here f.fit, λ (j, (r, f, e)). n j r f.here f.fit);
}

-- the way of a header from outside to an address of domain 1
way_in : (s : ℕ) → 9 < s → Way range_holds range_holds owned (header s 5 0) (hop_in ∷ [])
way_in s h = record { u = 0; v = 1; from = of_zero s h; to = of_owner 5 (omega arith) (omega arith); route = route_in }

way_in_sieved : (s : ℕ) → 9 < s → Way range_holds range_holds sieved (header s 5 0) (hop_in ∷ [])
way_in_sieved s h = record { u = 0; v = 1; from = of_zero s h; to = of_owner 5 (omega arith) (omega arith); route = route_in }

stopped_first : Decided range_holds range_holds (rule whole whole whole Discard ∷ []) (packet 0 500 5 0) 0 Discard
stopped_first = decided_first Discard [] 0 500 5 0 (omega arith) (omega arith) (omega arith) (omega arith)

no_pass : (hs : List Hop) → Way range_holds range_holds owned (header 500 5 0) hs → ((k : ℕ) (y : Hop) → slice_get hs k ≡ Some y → Stops range_holds range_holds owned (header 500 5 0) y → ⊥) → ⊥
no_pass hs way none =
    let a = owned_of 500 way.u way.from in
    let b = owned_of 5 way.v way.to in
    let from : way.u ≡ 0 = omega arith in
    let to : way.v ≡ 1 = omega arith in
    let r = subst (λ x. Route one.shape 0 x hs) to (subst (λ x. Route one.shape x way.v hs) from way.route) in
    none 0 hop_in (ap (λ (l : List Hop). slice_get l 0) (only_route hs r)) (0, stopped_first)

-- the way to an address of domain 2
abbrev low_block : Block Range
low_block = record { region = range 3 9 tt; domain = 2 }

abbrev way_down : Way range_holds range_holds below (header 500 5 0) hops_down
way_down = record {
  u = 0;
  v = 2;
  from = inr (refl, before_all _ below.blocks 1 (omega arith) (before_more _ below.blocks 0 low_block refl (before_none _ below.blocks) (λ h. omega arith)));
  to = inl (0, low_block, refl, (omega arith, omega arith), refl);
  route = route_down;
}

way_deep : Way range_holds range_holds deep (header 500 5 0) hops_down
way_deep = record { u = 0; v = 2; from = way_down.from; to = way_down.to; route = route_down }

stopped_deep : Decided range_holds range_holds (rule whole whole whole Discard ∷ []) (packet 2 500 5 0) 0 Discard
stopped_deep = decided_first Discard [] 2 500 5 0 (omega arith) (omega arith) (omega arith) (omega arith)

pub sending : Sending
sending = record {
  inside = (
    [],
    record { u = 1; v = 1; from = of_owner 3 (omega arith) (omega arith); to = of_owner 9 (omega arith) (omega arith); route = record { walk = refl; firewalls_once = tt; domains_once = (tt, tt) } },
    λ k y e f. none_some e,
  );
  outside = (
    [],
    record { u = 0; v = 0; from = of_zero 500 (omega arith); to = of_zero 600 (omega arith); route = record { walk = refl; firewalls_once = tt; domains_once = (tt, tt) } },
    λ k y e f. none_some e,
  );
  stopped = (hop_in ∷ [], 0, hop_in, way_in 500 (omega arith), record { here = refl; fit = (0, stopped_first); before = before_none _ (hop_in ∷ []) }, refl, stopped_first);
  stopped_later = (hop_in ∷ [], 0, hop_in, way_in_sieved 601 (omega arith), record { here = refl; fit = (1, stops_later); before = before_none _ (hop_in ∷ []) }, refl, stops_later);
  passed = (
    hop_in ∷ [],
    way_in_sieved 600 (omega arith),
    before_all _ (hop_in ∷ []) 1 (omega arith) (before_more _ (hop_in ∷ []) 0 hop_in refl (before_none _ (hop_in ∷ [])) (passes (packet 0 600 5 0) (omega arith) (omega arith))),
  );
  nearer = (hops_down, 0, hop_in, way_down, record { here = refl; fit = (0, stopped_first); before = before_none _ hops_down }, refl, stopped_first);
  farther = (
    hops_down,
    1,
    hop_down,
    way_deep,
    record { here = refl; fit = (0, stopped_deep); before = before_more _ hops_down 0 hop_in refl (before_none _ hops_down) (accepts (packet 0 500 5 0)) },
    refl,
    stopped_deep,
  );
  not_passed = λ (hs, way, none). no_pass hs way none;
}

pub recording : Recording
recording = record {
  made = refl;
  done = refl;
  refused = refl;
  lawful = (λ n p e. none_some e, (attach_none, refl), λ n p e. none_some e);
  unlawful = λ (g, r, l). let e = r.1 in let z : ◌≡◌ {A = ℕ} 2 1 = cc in omega arith;
  guarded = λ (g, r, (h, s, (i, a, l))).
      (l 0 inward refl).1 0 (packet 0 550 5 0) (somewhere (next owned (Stand inward)) inward 0 (packet 0 550 5 0) (inward_broken (next owned (Stand inward)) refl refl));
}

pub effects : Effects
effects = record {
  attached = refl;
  placed_first = refl;
  placed_last = refl;
  altered = refl;
  lifted = refl;
  other = refl;
  given = refl;
  taken = refl;
  stood = refl;
  withdrawn = refl;
  asked = λ t p. refl;
  sent = λ t h. refl;
}
