-- A call to which no refusal applies leaves every standing property well placed and unbroken.
use Rattle.std.proofs.Common.{◌≡◌, ℕ, zero, suc, ◌<◌, ◌⊎◌, List, [], ◌∷◌, ◌++◌, length, Some, None, Option, unwrap_or, sym, refl, ap, ◌∙◌, subst, inl, inr, arith, MatchOption}
use native.Mathlib.Decide.{ℕ_discrete}
use Rattle.std.specs.List.{slice_get}
use Rattle.kinds.specs.Words.{Inhabited}
use Rattle.kinds.specs.Made.{dec_both}
use Rattle.kinds.proofs.Provided.{none_some}
use Rattle.model.specs.Properties.{Neighbours, Of, WellPlaced, BrokenIn, Kept, Guarded}
use Rattle.model.specs.Record.{refused, Right, unless, then_tree, plain}
use Rattle.model.specs.Refusals.{Misplaces, Broken, BreaksOne}
use Rattle.model.specs.Shape.{Shape, Domain, Firewall, Lies, Joined, Walk, Route, Sound}
use Rattle.model.specs.Theorems.{OneRightMore}
use Rattle.model.specs.Tree.{Tree, Block, start, after, rules_of, with_blocks, with_rules, with_properties}
use Rattle.model.specs.declared.answers.Lent.{Lent}
use Rattle.model.specs.declared.answers.Recorded.{Recorded}
use Rattle.model.specs.declared.answers.Refusal.{Refusal}
use Rattle.model.specs.declared.answers.Refusal.TheVariants.{Unjoined, SourceAstray, DestinationAstray, Misplaced, Breaks}
use Rattle.model.specs.declared.calls.Call.{Call}
use Rattle.model.specs.declared.calls.Call.TheVariants.{Attach, Branch, Give, Take, Place, Alter, Lift, Stand, Withdraw, Ask, Send}
use Rattle.model.specs.declared.path.Hop.{Hop}
use Rattle.model.specs.declared.path.Uplink.{Uplink}
use Rattle.model.specs.declared.rules.Decision.{Decision}
use Rattle.model.specs.declared.rules.Decision.TheVariants.{Accept, Discard}
use Rattle.model.specs.declared.rules.Packet.{Packet}
use Rattle.model.specs.declared.rules.Property.{Property}
use Rattle.model.specs.declared.rules.Rule.{Rule}
use Rattle.model.proofs.Firsts.{nowhere_since}
use Rattle.model.proofs.Grown.{Grown, NoneApplies, grown_after, grown_plain}
use Rattle.model.proofs.Growth.{nth_old, joined_firewall}
use Rattle.model.proofs.Meanings.{guarded_last, breaks_in_carry, lawful_more, of_one, of_some}
use Rattle.model.proofs.Routes.{route_one, route_exists}
use Rattle.model.proofs.Rows.{nth_push, skip, nth_removed}
use Rattle.model.proofs.Subtrees.{nth_some, joined_domain}

-- Whether two domains are neighbours can be told.

tell_uplink : (us : List Uplink) (k d : ℕ) → Dec ((i : ℕ) × (slice_get us k ≡ Some (record { node = d; interface = i })))
tell_uplink [] k d = no (λ h. none_some h.1)
tell_uplink (x ∷ us) zero d = elim (ℕ_discrete x.node d) [
  | yes same ↦ yes (x.interface, ap (λ n. Some (record { node = n; interface = x.interface })) same)
  | no other ↦ no (λ h. let is : x ≡ record { node = d; interface = h.0 } = cc h.1 in other (ap (λ (u : Uplink). u.node) is))
]
tell_uplink (x ∷ us) (suc k) d = tell_uplink us k d

module _ (s : Shape) where
  abbrev SomeJoined : ℕ → ℕ → Type 0
  SomeJoined f d = (i : ℕ) × Joined s f d i

  tell_lies : (f d : ℕ) → Dec ((i : ℕ) × Lies s d f i)
  tell_lies f zero = no (λ h. let e = h.1.1 in omega arith)
  tell_lies f (suc k) = elim (tell_uplink s.domains k f) [
    | yes h ↦ yes (h.0, (k, refl, h.1))
    | no not ↦ no (λ h. let (i, (m, same, at)) = h in let is : m ≡ k = omega arith in not (i, ap (slice_get s.domains) (sym is) ∙ at))
  ]

  tell_joined : (f d : ℕ) → Dec (SomeJoined f d)
  tell_joined f d = elim (tell_uplink s.firewalls f d) [
    | yes h ↦ yes (h.0, inl h.1)
    | no above ↦ elim (tell_lies f d) [
      | yes h ↦ yes (h.0, inr h.1)
      | no below ↦ no (λ h. elim h.1 [ inl hangs ↦ above (h.0, hangs) | inr lies ↦ below (h.0, lies) ])
    ]
  ]

  module _ (u v : ℕ) where
    neighbours_below : (n : ℕ) → Neighbours s u v ⊎ ((f : ℕ) → f < n → SomeJoined f u → SomeJoined f v → ⊥)
    neighbours_below zero = inr (λ f less. absurd (omega arith))
    neighbours_below (suc n) = elim (dec_both (tell_joined n u) (tell_joined n v)) [
      | yes both ↦ inl (n, both.0.0, both.1.0, both.0.1, both.1.1)
      | no not ↦ elim (neighbours_below n) [
        | inl found ↦ inl found
        | inr none ↦ inr (λ f less a b. elim (ℕ_discrete f n) [
          | yes same ↦ not (subst (λ g. SomeJoined g u) same a, subst (λ g. SomeJoined g v) same b)
          | no other ↦ none f (omega arith) a b
        ])
      ]
    ]

    neighbours_since : Sound s → ((Neighbours s u v → ⊥) → ⊥) → Neighbours s u v
    neighbours_since ok not-not = elim (neighbours_below (length s.firewalls)) [
      | inl found ↦ found
      | inr none ↦ absurd (not-not (λ n.
          let (f, i, j, a, b) = n in
          none f (joined_firewall s ok f u i a) (i, a) (j, b)))
    ]

-- In a shape that has grown, what was joined is joined.

abbrev Grows : Shape → Shape → Type 0
Grows s n = (f d i : ℕ) → Joined s f d i → Joined n f d i

walk_grows : (s n : Shape) → Grows s n → (hs : List Hop) (u v : ℕ) → Walk s u hs v → Walk n u hs v
walk_grows s n more [] u v walk = walk
walk_grows s n more (h ∷ hs) u v walk =
    (more h.firewall u h.entered walk.0, more h.firewall h.reached h.left walk.1, walk_grows s n more hs h.reached v walk.2)

route_grows : (s n : Shape) → Grows s n → (u v : ℕ) (hs : List Hop) → Route s u v hs → Route n u v hs
route_grows s n more u v hs r = record { walk = walk_grows s n more hs u v r.walk; firewalls_once = r.firewalls_once; domains_once = r.domains_once }

-- a route between two of its domains is the one that it was
route_old : (s n : Shape) → Grows s n → Sound s → Sound n → (u v : ℕ) → Domain s u → Domain s v → (hs : List Hop) → Route n u v hs → Route s u v hs
route_old s n more ok new u v is-u is-v hs r =
    let (ks, old) = route_exists s ok u v is-u is-v in
    let same = route_one n new u v ks hs (route_grows s n more u v ks old) r in
    subst (Route s u v) same old

neighbours_grow : (s n : Shape) → Grows s n → (u v : ℕ) → Neighbours s u v → Neighbours n u v
neighbours_grow s n more u v (f, i, j, a, b) = (f, i, j, more f u i a, more f v j b)

-- the firewall of a hop exists
walk_firewall : (s : Shape) → Sound s → (hs : List Hop) (u v k : ℕ) (h : Hop) → Walk s u hs v → slice_get hs k ≡ Some h → Firewall s h.firewall
walk_firewall s ok [] u v k h walk at = none_some at
walk_firewall s ok (g ∷ hs) u v zero h walk at =
    let same : g ≡ h = cc in
    subst (λ (x : Hop). Firewall s x.firewall) same (joined_firewall s ok g.firewall u g.entered walk.0)
walk_firewall s ok (g ∷ hs) u v (suc k) h walk at = walk_firewall s ok hs g.reached v k h walk.2 at

module _ {A R V W : Type 0} (addr : A → V → Type 0) (rests : R → W → Type 0) where
  -- a property that was kept is kept in a tree with no other routes, and the same lists on them
  kept_carry : (t n : Tree A R) (p : Property A R) → ((hs : List Hop) → Route n.shape p.from p.to hs → Route t.shape p.from p.to hs)
      → ((hs : List Hop) (k : ℕ) (h : Hop) → Route t.shape p.from p.to hs → slice_get hs k ≡ Some h → rules_of n h.firewall ≡ rules_of t h.firewall)
      → Kept addr rests t p → Kept addr rests n p
  kept_carry t n p route lists kept f k b =
      let old = route b.hops b.route in
      let same = lists b.hops b.place b.hop old b.on in
      kept f k (record {
        hops = b.hops;
        place = b.place;
        hop = b.hop;
        route = old;
        on = b.on;
        named = b.named;
        breaks = breaks_in_carry addr rests t n p b.hop k same b.breaks;
      })

  -- what is broken nowhere first is kept
  kept_since : (t : Tree A R) (p : Property A R) → (Broken addr rests t p → ⊥) → Kept addr rests t p
  kept_since t p not f k b =
      nowhere_since (BrokenIn addr rests t p) b.hops
      (λ j h first. not (h.firewall, first.fit.0, record { hops = b.hops; place = j; hop = h; route = b.route; first = first; named = refl; breaks = first.fit.1 }))
      b.place b.hop b.on (k, b.breaks)

  -- a property that was well placed is so where its domains are neighbours as before, and addresses of the same domains
  placed_carry : (t n : Tree A R) (p : Property A R) → (Neighbours t.shape p.from p.to → Neighbours n.shape p.from p.to)
      → ((v : V) (d : ℕ) → Of addr rests t v d → Of addr rests n v d) → WellPlaced addr rests t p → WellPlaced addr rests n p
  placed_carry t n p near of w = record {
    apart = w.apart;
    joined = λ e. near (w.joined e);
    source = λ e v held. of v p.from (w.source e v held);
    destination = λ v held. of v p.to (w.destination v held);
  }

  -- another list of a firewall, by which no standing property is broken
  guarded_list : (t : Tree A R) (f : ℕ) (l : List (Rule A R)) → Guarded addr rests t → ((m g : ℕ) (x : Packet V W) → BreaksOne addr rests (with_rules t f l) m g x → ⊥) → Guarded addr rests (with_rules t f l)
  guarded_list t f l guard none k p at =
      let new = with_rules t f l in
      let unbroken = nowhere_since _ t.properties (λ m q first. none m first.fit.0 first.fit.1 (q, first, first.fit.2)) in
      (placed_carry t new p (λ near. near) (λ v d of. of) (guard k p at).0, kept_since new p (unbroken k p at))

  -- other properties, each of them guarded as things are
  guarded_properties : (t : Tree A R) (ps : List (Property A R)) → ((k : ℕ) (p : Property A R) → slice_get ps k ≡ Some p → WellPlaced addr rests t p × Kept addr rests t p) → Guarded addr rests (with_properties t ps)
  guarded_properties t ps guard k p at =
      let (w, kept) = guard k p at in
      let new = with_properties t ps in
      (placed_carry t new p (λ near. near) (λ v d of. of) w, kept_carry t new p (λ hs r. r) (λ hs m h r on. refl) kept)

  -- the lists of old firewalls are as they were when one more is added
  rules_old : (t n : Tree A R) (ls : List (List (Rule A R))) → n.lists ≡ t.lists ++ ls → (f : ℕ) → f < length t.lists → rules_of n f ≡ rules_of t f
  rules_old t n ls is f less =
      let (l, at) = nth_some t.lists f less in
      let new = nth_old t.lists ls f l at in
      let same : slice_get n.lists f ≡ slice_get t.lists f = cc in
      ap (λ (o : Option (List (Rule A R))). unwrap_or o []) same

  of_domain : (t : Tree A R) → Grown addr rests t → (v : V) (d : ℕ) → Of addr rests t v d → Domain t.shape d
  of_domain t g v d (inl (k, b, here, held, is)) = subst (Domain t.shape) is (g.owned k b here).1
  of_domain t g v d (inr (none, _)) = omega arith

  module _ (tell-addr : (x : A) (v : V) → Dec (addr x v)) (some-addr : (x : A) → Inhabited (addr x)) where
    -- of which domain an address is can be told
    of_since : (t : Tree A R) → Grown addr rests t → (v : V) (d : ℕ) → ((Of addr rests t v d → ⊥) → ⊥) → Of addr rests t v d
    of_since t g v d not-not =
        let (e, _, of) = of_some addr rests tell-addr t g v in
        elim (ℕ_discrete e d) [
          | yes same ↦ subst (Of addr rests t v) same of
          | no other ↦ absurd (not-not (λ also. other (of_one addr rests t g.apart v e d of also)))
        ]

    -- the domains of a well placed property exist
    to_domain : (t : Tree A R) → Grown addr rests t → (p : Property A R) → WellPlaced addr rests t p → Domain t.shape p.to
    to_domain t g p w = let (v, held) = some-addr p.destination in of_domain t g v p.to (w.destination v held)

    from_domain : (t : Tree A R) → Grown addr rests t → (p : Property A R) → WellPlaced addr rests t p → (sort : Decision) → p.sort ≡ sort → Domain t.shape p.from
    from_domain t g p w Accept e = let (v, held) = some-addr p.source in of_domain t g v p.from (w.source e v held)
    from_domain t g p w Discard e = let (f, i, j, a, b) = w.joined e in joined_domain t.shape g.sound f p.from i a

    -- a larger tree, with the lists of its old firewalls as they were
    guarded_grows : (t n : Tree A R) → Grown addr rests t → Guarded addr rests t → Sound n.shape → Grows t.shape n.shape
        → ((f : ℕ) → Firewall t.shape f → rules_of n f ≡ rules_of t f) → ((v : V) (d : ℕ) → Of addr rests t v d → Of addr rests n v d)
        → (k : ℕ) (p : Property A R) → slice_get t.properties k ≡ Some p → WellPlaced addr rests n p × Kept addr rests n p
    guarded_grows t n g guard new more lists of k p at =
        let (w, kept) = guard k p at in
        let is-from = from_domain t g p w p.sort refl in
        let is-to = to_domain t g p w in (
          placed_carry t n p (neighbours_grow t.shape n.shape more p.from p.to) of w,
          kept_carry t n p (route_old t.shape n.shape more g.sound new p.from p.to is-from is-to)
              (λ hs m h r on. lists h.firewall (walk_firewall t.shape g.sound hs p.from p.to m h r.walk on)) kept,
        )

    -- other blocks, by which no standing property goes astray
    guarded_blocks : (t : Tree A R) (bs : List (Block A)) → Guarded addr rests t → Grown addr rests (with_blocks t bs) → ((m : ℕ) (v : V) → Misplaces addr rests (with_blocks t bs) m v → ⊥) → Guarded addr rests (with_blocks t bs)
    guarded_blocks t bs guard g none k p at =
        let (w, kept) = guard k p at in
        let new = with_blocks t bs in
        let not = nowhere_since _ t.properties (λ m q first. none m first.fit.0 (q, first, first.fit.1)) k p at in (
          record {
            apart = w.apart;
            joined = w.joined;
            source = λ e v held. of_since new g v p.from (λ out. not (v, inl (e, held, out)));
            destination = λ v held. of_since new g v p.to (λ out. not (v, inr (λ b astray. not (b, inl astray), (held, out))));
          },
          kept_carry t new p (λ hs r. r) (λ hs m h r on. refl) kept,
        )

    -- a property that stand offers and that is not refused
    guarded_offer : (t : Tree A R) (p : Property A R) (l : Lent) → Grown addr rests t → NoneApplies addr rests t (Stand p) l → WellPlaced addr rests t p × Kept addr rests t p
    guarded_offer t p l g none =
        let new = after {V = V} {W = W} t (Stand p) in (
          record {
            apart = λ e. none Unjoined (inl e);
            joined = λ e. neighbours_since t.shape p.from p.to g.sound (λ not. none Unjoined (inr (e, not)));
            source = λ e v held. of_since t g v p.from (λ out. none (SourceAstray v) (e, held, out));
            destination = λ v held. of_since t g v p.to (λ out. none (DestinationAstray v) (held, out));
          },
          kept_carry new t p (λ hs r. r) (λ hs m h r on. refl)
              (kept_since new p (λ b. none (Breaks (length t.properties) b.0 b.1) (refl, b.2))),
        )

    -- a call to which no refusal applies keeps what stands guarded
    pub guarded_after : (t : Tree A R) (c : Call A R V W) (l : Lent) → Grown addr rests t → Guarded addr rests t → NoneApplies addr rests t c l → Guarded addr rests (after t c)
    guarded_after t (Attach d i j w) l g guard none =
        let new = after {V = V} {W = W} t (Attach d i j w) in
        guarded_grows t new g guard (grown_after addr rests t (Attach d i j w) l g none).sound
        (λ f e k a. elim a [ inl h ↦ inl (nth_old t.shape.firewalls _ f _ h) | inr (m, is, at) ↦ inr (m, is, nth_old t.shape.domains _ m _ at) ])
        (λ f is. rules_old t new _ refl f (subst (λ n. f < n) (sym g.lists) is)) (λ v e of. of)
    guarded_after t (Branch f i) l g guard none =
        let new = after {V = V} {W = W} t (Branch f i) in
        guarded_grows t new g guard (grown_after addr rests t (Branch f i) l g none).sound
        (λ h e k a. elim a [ inl hangs ↦ inl hangs | inr (m, is, at) ↦ inr (m, is, nth_old t.shape.domains _ m _ at) ]) (λ h is. refl) (λ v e of. of)
    guarded_after t (Give d x) l g guard none = guarded_blocks t _ guard (grown_after addr rests t (Give d x) l g none) (λ m v. none (Misplaced m v))
    guarded_after t (Take b) l g guard none = guarded_blocks t _ guard (grown_after addr rests t (Take b) l g none) (λ m v. none (Misplaced m v))
    guarded_after t (Place f q r) l g guard none = guarded_list t f _ guard (λ m h x. none (Breaks m h x))
    guarded_after t (Alter f q r) l g guard none = guarded_list t f _ guard (λ m h x. none (Breaks m h x))
    guarded_after t (Lift f q) l g guard none = guarded_list t f _ guard (λ m h x. none (Breaks m h x))
    guarded_after t (Stand p) l g guard none =
        guarded_properties t _ (λ k q at. elim (nth_push t.properties p q k at) [
          | inl old ↦ guard k q old
          | inr (_, new) ↦ subst (λ (x : Property A R). WellPlaced addr rests t x × Kept addr rests t x) (sym new) (guarded_offer t p l g none)
        ])
    guarded_after t (Withdraw m) l g guard none = guarded_properties t _ (λ k p at. guard (skip m k) p (sym (nth_removed t.properties m k) ∙ at))
    guarded_after t (Ask p) l g guard none = guard
    guarded_after t (Send h) l g guard none = guard

    guarded_unless : (t : Tree A R) (c : Call A R V W) (l : Lent) (S : Type 0) (Q : Refusal V W → Type 0) (o : Option (Refusal V W)) → Grown addr rests t → Guarded addr rests t
        → MatchOption o (NoneApplies addr rests t c l × S) Q → Guarded addr rests (unless o t (after t c))
    guarded_unless t c l S Q None g guard right = guarded_after t c l g guard right.0
    guarded_unless t c l S Q (Some r) g guard right = guard

    -- so does an entry whose answer is right
    pub guarded_then : (t : Tree A R) (e : Recorded A R V W) → Grown addr rests t → Guarded addr rests t → Right addr rests t e.call e.lent e.answer → Guarded addr rests (then_tree t e)
    guarded_then t e g guard right = guarded_unless t e.call e.lent _ _ (refused e.answer) g guard right

    pub right_more : OneRightMore addr rests
    right_more a r es e law right =
        let guard = guarded_last addr rests (start a r) es law in
        lawful_more addr rests (start a r) es e law right (guarded_then (plain a r es) e (grown_plain addr rests a r es law) guard right)
