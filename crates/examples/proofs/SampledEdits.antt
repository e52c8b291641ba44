-- The samples of the refusals 8 to 12 hold.
use Rattle.std.proofs.Common.{◌≡◌, ℕ, zero, suc, ◌/◌, ◌%◌, ◌^◌, ◌<◌, ◌≤◌, Bool, true, false, cond, T, eqb, ◌⊎◌, List, [], ◌∷◌, Some, sym, refl, ap, subst, inl, inr, arith, eqb→eq}
use native.Mathlib.Decide.{ℕ_discrete}
use Rattle.std.proofs.lemmas.Bool.{cases_lt}
use Rattle.std.specs.List.{slice_get}
use Rattle.forms.specs.Range.{range_holds}
use Rattle.kinds.specs.Set.{set_holds}
use Rattle.forms.specs.declared.range.Range.{Range}
use Rattle.kinds.proofs.Provided.{none_some}
use Rattle.search.proofs.Positions.{before_none, before_more, before_all}
use Rattle.examples.specs.Examples.{range, mask}
use Rattle.model.specs.Packets.{Matches, Decided, Unmatched, Accepted, Discarded}
use Rattle.model.specs.Properties.{Of, BreaksIn, BreaksFirst}
use Rattle.model.specs.Refusals.{Astray, SomeAstray, Misplaces, Broken, BreaksOne}
use Rattle.examples.specs.Samples.{Sources, Destinations, Matching, Placing, Keeping, World, whole, rule, property, packet, one, owned, letting, sieved, outward, inward, closed, closed_low, closed_high, crossing, fork, next}
use Rattle.model.specs.Shape.{Route, Sound, bare}
use Rattle.model.specs.Tree.{Block, all_interfaces, rules_of}
use Rattle.model.specs.declared.calls.Call.TheVariants.{Give, Take, Place, Alter, Lift, Stand}
use Rattle.model.specs.declared.path.Hop.{Hop}
use Rattle.model.specs.declared.rules.Decision.{Decision}
use Rattle.model.specs.declared.rules.Decision.TheVariants.{Accept, Discard}
use Rattle.model.specs.declared.rules.Packet.{Packet}
use Rattle.model.specs.declared.rules.Property.{Property}
use Rattle.model.specs.declared.rules.Rule.{Rule}
use Rattle.model.proofs.Growth.{sound_bare, sound_attached}
use Rattle.model.proofs.Routes.{route_one}
use Rattle.examples.proofs.Sampled.{only_one, only_two, block}

-- the mask has every bit below n
abbrev all_set : ℕ → ℕ → Bool
all_set m zero = true
all_set m (suc n) = cond (eqb (m / 2 ^ n % 2) 1) (all_set m n) false

both_true : (b c : Bool) → T (cond b c false) → T b × T c
both_true true c h = (tt, h)
both_true false c h = absurd h

bit_below : (m n : ℕ) → T (all_set m n) → (v : ℕ) → v < n → m / 2 ^ v % 2 ≡ 1
bit_below m zero h v l = absurd (omega arith)
bit_below m (suc n) h v l =
    let b = both_true (eqb (m / 2 ^ n % 2) 1) (all_set m n) h in
    elim (ℕ_discrete v n) [
      | yes e ↦ subst (λ x. m / 2 ^ x % 2 ≡ 1) (sym e) (eqb→eq (m / 2 ^ n % 2) 1 b.0)
      | no other ↦ bit_below m n b.1 v (omega arith)
    ]

pub any_interface : (i : ℕ) → i < 32 → set_holds all_interfaces i
any_interface i h = bit_below all_interfaces.mask 32 tt i h

-- whose an address is, where 3-9 is of domain 1
pub owned_of : (a d : ℕ) → Of range_holds range_holds owned a d → ((3 ≤ a) × (a ≤ 9) × (d ≡ 1)) ⊎ ((d ≡ 0) × ((a < 3) ⊎ (9 < a)))
owned_of a d (inl (k, b, here, held, is)) =
    let same = (only_one (block (range 3 9 tt)) b k here).1 in
    let (h, e) = subst (λ (z : Block Range). range_holds z.region a × (z.domain ≡ d)) (sym same) (held, is) in
    inl (omega arith)
owned_of a d (inr (z, none)) = elim (cases_lt a 3) [
  | inl low ↦ inr (z, inl low)
  | inr from ↦ elim (cases_lt 9 a) [ inl high ↦ inr (z, inr high) | inr to ↦ absurd (none 0 (block (range 3 9 tt)) refl (from, to)) ]
]

pub of_owner : (a : ℕ) → 3 ≤ a → a ≤ 9 → Of range_holds range_holds owned a 1
of_owner a low high = inl (0, block (range 3 9 tt), refl, (low, high), refl)

pub of_zero : (a : ℕ) → 9 < a → Of range_holds range_holds owned a 0
of_zero a high = inr (refl, before_all _ owned.blocks 1 (omega arith) (before_more _ owned.blocks 0 (block (range 3 9 tt)) refl (before_none _ owned.blocks) (λ h. omega arith)))

pub sources : Sources
sources = record {
  astray = (refl, (omega arith, omega arith), λ o. let x = owned_of 10 1 o in omega arith);
  asked = (refl, (omega arith, omega arith), λ o. let x = owned_of 10 1 o in omega arith);
  at_home = λ (is, held, n). n (of_owner 9 (omega arith) (omega arith));
  elsewhere = λ (is, held, n). omega arith;
  zero_astray = (refl, (omega arith, omega arith), λ o. let x = owned_of 9 0 o in omega arith);
  zero_at_home = λ (is, held, n). n (of_zero 10 (omega arith));
  free = λ t u v s d a (is, held, n). let z : ◌≡◌ {A = ℕ} 0 1 = cc in omega arith;
}

pub destinations : Destinations
destinations = record {
  astray = ((omega arith, omega arith), λ o. let x = owned_of 10 1 o in omega arith);
  asked = ((omega arith, omega arith), λ o. let x = owned_of 10 1 o in omega arith);
  discard_astray = ((omega arith, omega arith), λ o. let x = owned_of 10 1 o in omega arith);
  at_home = λ (held, n). n (of_owner 9 (omega arith) (omega arith));
  elsewhere = λ (held, n). omega arith;
}

-- a list of one rule that does not match
unmatched_one : (r : Rule Range Range) (k : Packet ℕ ℕ) → (Matches range_holds range_holds r k → ⊥) → Unmatched range_holds range_holds (r ∷ []) k
unmatched_one r k n = before_all _ (r ∷ []) 1 (omega arith) (before_more _ (r ∷ []) 0 r refl (before_none _ (r ∷ [])) n)

pub matching : Matching
matching = record {
  lifted = (record { interface = omega arith; source = (omega arith, omega arith); destination = (omega arith, omega arith); rest = (omega arith, omega arith) }, λ k y e f. none_some e);
  above = λ (w, u). let h = w.interface in omega arith;
  source = λ (w, u). let h = w.source in omega arith;
  destination = λ (w, u). let h = w.destination in omega arith;
  rest = λ (w, u). let h = w.rest in omega arith;
  altered_source = (
    record { interface = omega arith; source = (omega arith, omega arith); destination = (omega arith, omega arith); rest = (omega arith, omega arith) },
    unmatched_one (rule (range 0 999 tt) whole whole Accept) (packet 0 1000 0 0) (λ m. let h = m.source in omega arith),
  );
  altered_destination = (
    record { interface = omega arith; source = (omega arith, omega arith); destination = (omega arith, omega arith); rest = (omega arith, omega arith) },
    unmatched_one (rule whole (range 0 999 tt) whole Accept) (packet 0 0 1000 0) (λ m. let h = m.destination in omega arith),
  );
  altered_rest = (
    record { interface = omega arith; source = (omega arith, omega arith); destination = (omega arith, omega arith); rest = (omega arith, omega arith) },
    unmatched_one (rule whole whole (range 0 999 tt) Accept) (packet 0 0 0 1000) (λ m. let h = m.rest in omega arith),
  );
  matched = λ (w, u). u 0 (rule (range 0 999 tt) whole whole Accept) refl (record { interface = refl; source = (omega arith, omega arith); destination = (omega arith, omega arith); rest = (omega arith, omega arith) });
  altered_interface = (
    record { interface = omega arith; source = (omega arith, omega arith); destination = (omega arith, omega arith); rest = (omega arith, omega arith) },
    unmatched_one (record { interfaces = mask 0xffff_fffe tt tt; source = whole; destination = whole; rest = whole; decision = Accept }) (packet 0 0 0 0)
        (λ m. let h : ◌≡◌ {A = ℕ} 0 1 = m.interface in omega arith),
  );
  covered = λ k (w, u). u 0 (rule whole whole whole Discard) refl (record { interface = any_interface k.interface w.interface; source = w.source; destination = w.destination; rest = w.rest });
  place = λ t f p r k h. h;
}

-- nobody but domain 0 has an address where there are no blocks
none_owned : (t : World) (a : ℕ) → t.blocks ≡ [] → Of range_holds range_holds t a 1 → ⊥
none_owned t a e (inl (k, b, here, held, is)) = none_some (subst (λ (bs : List (Block Range)). slice_get bs k ≡ Some b) e here)
none_owned t a e (inr (z, n)) = omega arith

-- two blocks of domain 1
two_of : (x y : Range) (t : World) (a : ℕ) → t.blocks ≡ block x ∷ (block y ∷ []) → range_holds y a → Of range_holds range_holds t a 0 → ⊥
two_of x y t a e held (inl (k, b, here, _, is)) = elim (only_two (block x) (block y) b k (subst (λ (bs : List (Block Range)). slice_get bs k ≡ Some b) e here)) [
  | inl (_, same) ↦ let z = ap (λ (c : Block Range). c.domain) same in omega arith
  | inr (_, same) ↦ let z = ap (λ (c : Block Range). c.domain) same in omega arith
]
two_of x y t a e held (inr (_, n)) = n 1 (block y) (ap (λ (bs : List (Block Range)). slice_get bs 1) e) held

abbrev far : Property Range Range
far = property Accept 0 1 (range 700 800 tt) (range 3 9 tt)

abbrev taken_out : World
taken_out = next (next letting (Stand outward)) (Take 0)

abbrev taken_in : World
taken_in = next (next letting (Stand inward)) (Take 0)

abbrev given_out : World
given_out = next (next letting (Stand outward)) (Give 1 (range 555 560 tt))

abbrev given_far : World
given_far = next (next (next letting (Stand inward)) (Stand far)) (Give 1 (range 750 760 tt))

not_inward : SomeAstray range_holds range_holds given_far inward → ⊥
not_inward (a, inl (is, held, n)) =
    n (inr (
      refl,
      before_all _ given_far.blocks 2 (omega arith)
          (before_more _ given_far.blocks 1 (block (range 750 760 tt)) refl
          (before_more _ given_far.blocks 0 (block (range 3 9 tt)) refl (before_none _ given_far.blocks) (λ h. omega arith)) (λ h. omega arith)),
    ))
not_inward (a, inr (none, (held, n))) = n (inl (0, block (range 3 9 tt), refl, held, refl))

-- of a tree where only this property stands
only_stands : (t : World) (p : Property Range Range) (a : ℕ) → t.properties ≡ p ∷ [] → Astray range_holds range_holds t p a → Misplaces range_holds range_holds t 0 a
only_stands t p a e is = (
  p,
  record { here = ap (λ (ps : List (Property Range Range)). slice_get ps 0) e; fit = (a, is); before = before_none _ t.properties },
  is,
)

astray_only : (t : World) (p : Property Range Range) (n a : ℕ) → t.properties ≡ p ∷ [] → Misplaces range_holds range_holds t n a → Astray range_holds range_holds t p a
astray_only t p n a e (q, f, is) =
    let same = (only_one p q n (subst (λ (ps : List (Property Range Range)). slice_get ps n ≡ Some q) e f.here)).1 in
    subst (λ (x : Property Range Range). Astray range_holds range_holds t x a) (sym same) is

not_taken_other : Astray range_holds range_holds taken_out outward 550 → ⊥
not_taken_other (inl (is, held, n)) = omega arith
not_taken_other (inr (none, (held, n))) = n (inr (refl, λ k y e f. none_some e))

not_given_source : Astray range_holds range_holds given_out outward 5 → ⊥
not_given_source (inl (is, held, n)) = n (inl (0, block (range 3 9 tt), refl, (omega arith, omega arith), refl))
not_given_source (inr (none, (held, n))) = omega arith

far_astray : Astray range_holds range_holds given_far far 750
far_astray = inl (refl, (omega arith, omega arith), two_of (range 3 9 tt) (range 750 760 tt) given_far 750 refl (omega arith, omega arith))

abbrev torn : World
torn = next (next (next fork (Give 1 (range 3 9 tt))) (Stand crossing)) (Take 0)

source_first : Astray range_holds range_holds torn crossing 550 → ⊥
source_first (inl (is, held, n)) = omega arith
source_first (inr (none, (held, n))) = none 5 (refl, (omega arith, omega arith), none_owned torn 5 refl)

pub placing : Placing
placing = record {
  taken_source = only_stands taken_out outward 5 refl (inl (refl, (omega arith, omega arith), none_owned taken_out 5 refl));
  taken_other = λ m. not_taken_other (astray_only taken_out outward 0 550 refl m);
  taken_destination = only_stands taken_in inward 7 refl (inr (
    λ b (is, held, n). n (inr (refl, λ k y e f. none_some e)),
    ((omega arith, omega arith), none_owned taken_in 7 refl),
  ));
  given_destination = only_stands given_out outward 555 refl (inr (
    λ b (is, held, n). n (inl (0, block (range 3 9 tt), refl, held, refl)),
    ((omega arith, omega arith), two_of (range 3 9 tt) (range 555 560 tt) given_out 555 refl (omega arith, omega arith)),
  ));
  given_source = λ m. not_given_source (astray_only given_out outward 0 5 refl m);
  later = (
    far,
    record { here = refl; fit = (750, far_astray); before = before_more _ given_far.properties 0 inward refl (before_none _ given_far.properties) not_inward },
    far_astray,
  );
  not_first = λ (p, f, a).
      before_more (SomeAstray range_holds range_holds given_far) given_far.properties 0 inward refl (before_none _ given_far.properties) not_inward 0 p (omega arith) f.here f.fit;
  both_source = only_stands torn crossing 5 refl (inl (refl, (omega arith, omega arith), none_owned torn 5 refl));
  not_destination = λ m. source_first (astray_only torn crossing 0 550 refl m);
  stand = λ t p n a h. h;
}

-- the only way into domain 1
abbrev pub hop_in : Hop
hop_in = record { firewall = 0; entered = 0; left = 1; reached = 1 }

pub route_in : Route one.shape 0 1 (hop_in ∷ [])
route_in = record { walk = (inl refl, inr (0, refl, refl), refl); firewalls_once = omega arith; domains_once = omega arith }

pub sound_one : Sound one.shape
sound_one = sound_attached bare sound_bare 0 0 1 (omega arith) (omega arith) (omega arith) (λ e. omega arith)

pub only_route : (hs : List Hop) → Route one.shape 0 1 hs → hs ≡ hop_in ∷ []
only_route hs r = route_one one.shape sound_one 0 1 hs (hop_in ∷ []) r route_in

pub only_hop : (hs : List Hop) (n : ℕ) (h : Hop) → Route one.shape 0 1 hs → slice_get hs n ≡ Some h → hop_in ≡ h
only_hop hs n h r e = (only_one hop_in h n (subst (λ (l : List Hop). slice_get l n ≡ Some h) (only_route hs r) e)).1

pub first_break : (t : World) (p : Property Range Range) (k : Packet ℕ ℕ) → Route t.shape p.from p.to (hop_in ∷ []) → BreaksIn range_holds range_holds t p hop_in k → BreaksFirst range_holds range_holds t p 0 k
first_break t p k r b = record {
  hops = hop_in ∷ [];
  place = 0;
  hop = hop_in;
  route = r;
  first = record { here = refl; fit = (k, b); before = before_none _ (hop_in ∷ []) };
  named = refl;
  breaks = b;
}

-- a rule for everything, in front
pub decided_first : (w : Decision) (rs : List (Rule Range Range)) (i s d r : ℕ) → i < 32 → s ≤ 1000 → d ≤ 1000 → r ≤ 1000 → Decided range_holds range_holds (rule whole whole whole w ∷ rs) (packet i s d r) 0 w
decided_first w rs i s d r hi hs hd hr = (
  rule whole whole whole w,
  record {
    here = refl;
    fit = record { interface = any_interface i hi; source = (omega arith, hs); destination = (omega arith, hd); rest = (omega arith, hr) };
    before = before_none _ (rule whole whole whole w ∷ rs);
  },
  refl,
)

-- closed is broken, by this packet, at a firewall that accepts first
closed_broken : (t : World) (rs : List (Rule Range Range)) → t.shape ≡ one.shape → rules_of t 0 ≡ rule whole whole whole Accept ∷ rs → BreaksFirst range_holds range_holds t closed 0 (packet 0 100 5 0)
closed_broken t rs e l =
    first_break t closed (packet 0 100 5 0) (subst (λ s. Route s 0 1 (hop_in ∷ [])) (sym e) route_in) (record {
      source = (omega arith, omega arith);
      destination = (omega arith, omega arith);
      rest = (omega arith, omega arith);
      entered = refl;
      against = subst (λ (x : List (Rule Range Range)). Accepted range_holds range_holds x (packet 0 100 5 0)) (sym l) (0, decided_first Accept rs 0 100 5 0 (omega arith) (omega arith) (omega arith) (omega arith));
    })

pub inward_broken : (t : World) → t.shape ≡ one.shape → rules_of t 0 ≡ rule whole whole whole Discard ∷ [] → BreaksFirst range_holds range_holds t inward 0 (packet 0 550 5 0)
inward_broken t e l =
    first_break t inward (packet 0 550 5 0) (subst (λ s. Route s 0 1 (hop_in ∷ [])) (sym e) route_in) (record {
      source = (omega arith, omega arith);
      destination = (omega arith, omega arith);
      rest = (omega arith, omega arith);
      entered = refl;
      against = subst (λ (x : List (Rule Range Range)). Discarded range_holds range_holds x (packet 0 550 5 0)) (sym l) (0, decided_first Discard [] 0 550 5 0 (omega arith) (omega arith) (omega arith) (omega arith));
    })

-- an accept behind a rule for everything
never_second : (k : Packet ℕ ℕ) → Accepted range_holds range_holds (rule whole whole whole Discard ∷ (rule whole whole whole Accept ∷ [])) k → ⊥
never_second k (j, (r, f, e)) = elim (only_two (rule whole whole whole Discard) (rule whole whole whole Accept) r j f.here) [
  | inl (_, same) ↦ let d = ap (λ (x : Rule Range Range). x.decision) same in let z : ◌≡◌ {A = ℕ} 0 1 = cc in omega arith
  | inr (at, same) ↦
      let m = subst (λ (x : Rule Range Range). Matches range_holds range_holds x k) (sym same) f.fit in
      f.before 0 (rule whole whole whole Discard) (omega arith) refl (record { interface = m.interface; source = m.source; destination = m.destination; rest = m.rest })
]

abbrev guarded : World
guarded = next owned (Stand closed)

abbrev in_front : World
in_front = next guarded (Place 0 0 (rule whole whole whole Accept))

abbrev at_end : World
at_end = next guarded (Place 0 1 (rule whole whole whole Accept))

abbrev swapped : World
swapped = next guarded (Alter 0 0 (rule whole whole whole Accept))

abbrev thinned : World
thinned = next (next sieved (Stand inward)) (Lift 0 0)

-- of a tree where only this property stands
only_breaks : (t : World) (p : Property Range Range) (f : ℕ) (k : Packet ℕ ℕ) → t.properties ≡ p ∷ [] → BreaksFirst range_holds range_holds t p f k → BreaksOne range_holds range_holds t 0 f k
only_breaks t p f k e b = (
  p,
  record { here = ap (λ (ps : List (Property Range Range)). slice_get ps 0) e; fit = (f, k, b); before = before_none _ t.properties },
  b,
)

breaks_only : (t : World) (p : Property Range Range) (n f : ℕ) (k : Packet ℕ ℕ) → t.properties ≡ p ∷ [] → BreaksOne range_holds range_holds t n f k → BreaksFirst range_holds range_holds t p f k
breaks_only t p n f k e (q, is, b) =
    let same = (only_one p q n (subst (λ (ps : List (Property Range Range)). slice_get ps n ≡ Some q) e is.here)).1 in
    subst (λ (x : Property Range Range). BreaksFirst range_holds range_holds t x f k) (sym same) b

-- the packet came by interface 0
pub by_zero : (t : World) (p : Property Range Range) (f : ℕ) (k : Packet ℕ ℕ) → t.shape ≡ one.shape → p.from ≡ 0 → p.to ≡ 1 → BreaksFirst range_holds range_holds t p f k → BreaksIn range_holds range_holds t p hop_in k
by_zero t p f k e u v b =
    let r = subst (λ x. Route one.shape 0 x b.hops) v (subst (λ x. Route one.shape x p.to b.hops) u (subst (λ s. Route s p.from p.to b.hops) e b.route)) in
    let same = only_hop b.hops b.place b.hop r b.first.here in
    subst (λ (h : Hop). BreaksIn range_holds range_holds t p h k) (sym same) b.breaks

abbrev let_high : World
let_high = next (next (next owned (Stand closed_low)) (Stand closed_high)) (Place 0 0 (rule (range 100 200 tt) whole whole Accept))

low_kept : Broken range_holds range_holds let_high closed_low → ⊥
low_kept (f, k, b) =
    let a = by_zero let_high closed_low f k refl refl refl b in
    let (j, (r, is, e)) = a.against in
    elim (only_two (rule (range 100 200 tt) whole whole Accept) (rule whole whole whole Discard) r j is.here) [
      | inl (_, same) ↦
          let m = subst (λ (x : Rule Range Range). Matches range_holds range_holds x k) (sym same) is.fit in
          let low = a.source in
          let high = m.source in
          omega arith
      | inr (_, same) ↦ let d = ap (λ (x : Rule Range Range). x.decision) same in let z : ◌≡◌ {A = ℕ} 0 1 = cc in omega arith
    ]

high_broken : BreaksFirst range_holds range_holds let_high closed_high 0 (packet 0 100 5 0)
high_broken = first_break let_high closed_high (packet 0 100 5 0) route_in (record {
  source = (omega arith, omega arith);
  destination = (omega arith, omega arith);
  rest = (omega arith, omega arith);
  entered = refl;
  against = (
    0,
    (
      rule (range 100 200 tt) whole whole Accept,
      record {
        here = refl;
        fit = record { interface = refl; source = (omega arith, omega arith); destination = (omega arith, omega arith); rest = (omega arith, omega arith) };
        before = before_none _ (rules_of let_high 0);
      },
      refl,
    ),
  );
})

pub keeping : Keeping
keeping = record {
  placed = only_breaks in_front closed 0 (packet 0 100 5 0) refl (closed_broken in_front _ refl refl);
  entered = λ m. let b = by_zero in_front closed 0 (packet 1 100 5 0) refl refl refl (breaks_only in_front closed 0 0 (packet 1 100 5 0) refl m) in let e = b.entered in omega arith;
  parts = λ m. let b = by_zero in_front closed 0 (packet 0 100 10 0) refl refl refl (breaks_only in_front closed 0 0 (packet 0 100 10 0) refl m) in let e = b.destination in omega arith;
  behind = λ n f k m. never_second k (by_zero at_end closed f k refl refl refl (breaks_only at_end closed n f k refl m)).against;
  altered = only_breaks swapped closed 0 (packet 0 100 5 0) refl (closed_broken swapped [] refl refl);
  lifted = only_breaks thinned inward 0 (packet 0 550 5 0) refl (inward_broken thinned refl refl);
  second = (
    closed_high,
    record { here = refl; fit = (0, packet 0 100 5 0, high_broken); before = before_more _ let_high.properties 0 closed_low refl (before_none _ let_high.properties) low_kept },
    high_broken,
  );
  not_first = λ f k (p, is, b).
      before_more (Broken range_holds range_holds let_high) let_high.properties 0 closed_low refl (before_none _ let_high.properties) low_kept 0 p (omega arith) is.here is.fit;
  offered = (refl, closed_broken (next (next letting (Stand outward)) (Stand closed)) [] refl refl);
  offered_zero = λ k (e, b). omega arith;
  ask = λ t p n f k h. h;
}
