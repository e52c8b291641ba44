-- Samples: each clause of the refusal table, and of the answers, at work in a small world whose addresses and rests are ranges.
use Rattle.std.specs.Prelude.{◌≡◌, ℕ, ◌<◌, ◌≤◌, ◌⊎◌, List, [], ◌∷◌, length}
use Rattle.forms.specs.Range.{range_holds}
use Rattle.forms.specs.declared.range.Range.{Range}
use Rattle.examples.specs.Examples.{range, mask}
use Rattle.model.specs.Packets as packets
use Rattle.model.specs.Record.{Right, Said, plain, Lawful}
use Rattle.model.specs.Refusals.{Applies}
use Rattle.model.specs.Tree.{Tree, start, after, all_interfaces, rules_of, count_rules}
use Rattle.model.specs.declared.answers.Answer.{Answer}
use Rattle.model.specs.declared.answers.Answer.TheVariants.{Done, Attached, Branched, Kept, Broken, Passed, Stopped, Refused}
use Rattle.model.specs.declared.answers.Lent.{Lent}
use Rattle.model.specs.declared.answers.Recorded.{Recorded}
use Rattle.model.specs.declared.answers.Refusal.{Refusal}
use Rattle.model.specs.declared.answers.Refusal.TheVariants.{TooShort, NoSuch, BadInterface, Full, Outside, Overlap, Unjoined, SourceAstray, DestinationAstray, Unmatched, Misplaced, Breaks}
use Rattle.model.specs.declared.calls.Call.{Call}
use Rattle.model.specs.declared.calls.Call.TheVariants.{Attach, Branch, Give, Take, Place, Alter, Lift, Stand, Withdraw, Ask, Send}
use Rattle.model.specs.declared.rules.Decision.{Decision}
use Rattle.model.specs.declared.rules.Decision.TheVariants.{Accept, Discard}
use Rattle.model.specs.declared.rules.Header.{Header}
use Rattle.model.specs.declared.rules.Packet.{Packet}
use Rattle.model.specs.declared.rules.Property.{Property}
use Rattle.model.specs.declared.rules.Rule.{Rule}

abbrev pub World : Type 0
World = Tree Range Range

abbrev pub Calls : Type 0
Calls = Call Range Range ℕ ℕ

abbrev pub whole : Range
whole = range 0 1000 tt

abbrev pub lent : (rules blocks properties packets addresses : ℕ) → Lent
lent r b p k a = record { rules = r; blocks = b; properties = p; packet_frames = k; address_frames = a }

-- just long enough
abbrev pub enough : Lent
enough = lent 512 128 64 129 129

-- a rule on every interface
abbrev pub rule : (source destination rest : Range) → Decision → Rule Range Range
rule s d r w = record { interfaces = all_interfaces; source = s; destination = d; rest = r; decision = w }

-- a property of every rest
abbrev pub property : Decision → (from to : ℕ) (source destination : Range) → Property Range Range
property w u v s d = record { sort = w; from = u; to = v; source = s; destination = d; rest = whole }

abbrev pub packet : (interface source destination rest : ℕ) → Packet ℕ ℕ
packet i s d r = record { interface = i; source = s; destination = d; rest = r }

abbrev pub header : (source destination rest : ℕ) → Header ℕ ℕ
header s d r = record { source = s; destination = d; rest = r }

abbrev pub next : World → Calls → World
next t c = after t c

-- domain 0 alone
abbrev pub alone : World
alone = start whole whole

-- firewall 0, which discards, between domain 0 (interface 0) and domain 1 (interface 1)
abbrev pub one : World
one = next alone (Attach 0 0 1 Discard)

-- 3-9 is of domain 1
abbrev pub owned : World
owned = next one (Give 1 (range 3 9 tt))

-- and 20-30
abbrev pub twice : World
twice = next owned (Give 1 (range 20 30 tt))

-- domain 2 below firewall 0 as well
abbrev pub fork : World
fork = next one (Branch 0 2)

-- firewall 1 below domain 1, and domain 2 below that
abbrev pub chain : World
chain = next one (Attach 1 2 3 Discard)

-- as owned, with a firewall that accepts
abbrev pub letting : World
letting = next (next alone (Attach 0 0 1 Accept)) (Give 1 (range 3 9 tt))

-- as owned, with 500-600 accepted
abbrev pub sieved : World
sieved = next owned (Place 0 0 (rule (range 500 600 tt) whole whole Accept))

abbrev pub outward : Property Range Range
outward = property Accept 1 0 (range 3 9 tt) (range 500 600 tt)

abbrev pub inward : Property Range Range
inward = property Accept 0 1 (range 500 600 tt) (range 3 9 tt)

abbrev pub closed : Property Range Range
closed = property Discard 0 1 whole (range 3 9 tt)

-- from domain 1 to its sibling
abbrev pub crossing : Property Range Range
crossing = property Accept 1 2 (range 3 9 tt) (range 500 600 tt)

-- two discard properties, side by side
abbrev pub closed_low : Property Range Range
closed_low = property Discard 0 1 (range 0 99 tt) (range 3 9 tt)

abbrev pub closed_high : Property Range Range
closed_high = property Discard 0 1 (range 100 200 tt) (range 3 9 tt)

-- 3-9 is of domain 2, below two firewalls that discard
abbrev pub below : World
below = next chain (Give 2 (range 3 9 tt))

-- the same, with a first firewall that accepts
abbrev pub deep : World
deep = next (next (next alone (Attach 0 0 1 Accept)) (Attach 1 2 3 Discard)) (Give 2 (range 3 9 tt))

abbrev pub downward : Property Range Range
downward = property Accept 0 2 (range 500 600 tt) (range 3 9 tt)

-- the call is refused so, with slices just long enough; or not so
abbrev pub Refuses : World → Calls → Refusal ℕ ℕ → Type 0
Refuses t c r = Applies range_holds range_holds t c enough r

abbrev pub Spares : World → Calls → Refusal ℕ ℕ → Type 0
Spares t c r = Refuses t c r → ⊥

-- with these lengths lent, a call is refused as too short
abbrev pub Short : Lent → Type 0
Short l = (t : World) (c : Calls) → Applies range_holds range_holds t c l TooShort

-- 1: slices
pub record Lengths : Type 0 where
  -- one too few of each
  pub rules : Short (lent 511 128 64 129 129)
  pub blocks : Short (lent 512 127 64 129 129)
  pub properties : Short (lent 512 128 63 129 129)
  pub packet_frames : Short (lent 512 128 64 128 129)
  pub address_frames : Short (lent 512 128 64 129 128)
  -- and just enough
  pub long_enough : (t : World) (c : Calls) → Spares t c TooShort

-- 2: what does not exist
pub record Missing : Type 0 where
  -- domains 0 and 1 are there, 2 is not
  pub attach : Refuses one (Attach 2 0 1 Accept) NoSuch
  pub attach_there : Spares one (Attach 1 0 1 Accept) NoSuch
  -- firewall 0 is there, 1 is not
  pub branch : Refuses one (Branch 1 2) NoSuch
  pub branch_there : Spares one (Branch 0 2) NoSuch
  -- domain 0 is given nothing
  pub give_zero : Refuses one (Give 0 (range 3 9 tt)) NoSuch
  pub give : Refuses one (Give 2 (range 3 9 tt)) NoSuch
  pub give_there : Spares one (Give 1 (range 3 9 tt)) NoSuch
  pub take : Refuses owned (Take 1) NoSuch
  pub take_there : Spares owned (Take 0) NoSuch
  -- a rule is placed before any of the list, or at its end
  pub place : Refuses one (Place 1 0 (rule whole whole whole Accept)) NoSuch
  pub place_beyond : Refuses one (Place 0 2 (rule whole whole whole Accept)) NoSuch
  pub place_last : Spares one (Place 0 1 (rule whole whole whole Accept)) NoSuch
  -- and altered or lifted where there is one
  pub alter : Refuses one (Alter 1 0 (rule whole whole whole Accept)) NoSuch
  pub alter_beyond : Refuses one (Alter 0 1 (rule whole whole whole Accept)) NoSuch
  pub alter_last : Spares one (Alter 0 0 (rule whole whole whole Accept)) NoSuch
  pub lift : Refuses one (Lift 1 0) NoSuch
  pub lift_beyond : Refuses one (Lift 0 1) NoSuch
  pub lift_last : Spares one (Lift 0 0) NoSuch
  -- either domain of a property
  pub stand_from : Refuses one (Stand (property Accept 2 0 whole whole)) NoSuch
  pub stand_to : Refuses one (Stand (property Accept 0 2 whole whole)) NoSuch
  pub stand_there : Spares one (Stand (property Accept 0 1 whole whole)) NoSuch
  pub ask_from : Refuses one (Ask (property Accept 2 0 whole whole)) NoSuch
  pub ask_to : Refuses one (Ask (property Accept 0 2 whole whole)) NoSuch
  pub ask_there : Spares one (Ask (property Accept 0 1 whole whole)) NoSuch
  pub withdraw : Refuses (next letting (Stand outward)) (Withdraw 1) NoSuch
  pub withdraw_there : Spares (next letting (Stand outward)) (Withdraw 0) NoSuch
  pub send : (t : World) (h : Header ℕ ℕ) → Spares t (Send h) NoSuch

-- 3: interfaces
pub record Interfaces : Type 0 where
  -- 31 is the last
  pub upper : Refuses one (Attach 1 32 0 Accept) BadInterface
  pub lower : Refuses one (Attach 1 0 32 Accept) BadInterface
  pub equal : Refuses one (Attach 1 5 5 Accept) BadInterface
  pub attach_free : Spares one (Attach 1 31 30 Accept) BadInterface
  pub attach_free_too : Spares one (Attach 1 0 31 Accept) BadInterface
  pub branch : Refuses one (Branch 0 32) BadInterface
  -- 0 leads up, 1 leads down
  pub used_above : Refuses one (Branch 0 0) BadInterface
  pub used_below : Refuses one (Branch 0 1) BadInterface
  pub branch_free : Spares one (Branch 0 31) BadInterface
  -- 2 is in use, at firewall 1 only
  pub used_there : Refuses chain (Branch 1 2) BadInterface
  pub free_here : Spares chain (Branch 0 2) BadInterface

-- 4: limits, in any tree
pub record Edges : Type 0 where
  -- 64 domains, with domain 0
  pub branch : (t : World) (f i : ℕ) → 63 ≤ length t.shape.domains → Refuses t (Branch f i) Full
  pub branch_room : (t : World) (f i : ℕ) → length t.shape.domains < 63 → Spares t (Branch f i) Full
  pub attach : (t : World) (d i j : ℕ) (w : Decision) → 63 ≤ length t.shape.domains → Refuses t (Attach d i j w) Full
  -- 512 rules in all
  pub attach_rules : (t : World) (d i j : ℕ) (w : Decision) → 512 ≤ count_rules t.lists → Refuses t (Attach d i j w) Full
  pub attach_room : (t : World) (d i j : ℕ) (w : Decision) → length t.shape.domains < 63 → count_rules t.lists < 512 → Spares t (Attach d i j w) Full
  -- 128 blocks
  pub give : (t : World) (d : ℕ) (x : Range) → 128 ≤ length t.blocks → Refuses t (Give d x) Full
  pub give_room : (t : World) (d : ℕ) (x : Range) → length t.blocks < 128 → Spares t (Give d x) Full
  -- 128 rules in a list, 512 in all
  pub place : (t : World) (f p : ℕ) (r : Rule Range Range) → 128 ≤ length (rules_of t f) → Refuses t (Place f p r) Full
  pub place_rules : (t : World) (f p : ℕ) (r : Rule Range Range) → 512 ≤ count_rules t.lists → Refuses t (Place f p r) Full
  pub place_room : (t : World) (f p : ℕ) (r : Rule Range Range) → length (rules_of t f) < 128 → count_rules t.lists < 512 → Spares t (Place f p r) Full
  -- 64 properties
  pub stand : (t : World) (p : Property Range Range) → 64 ≤ length t.properties → Refuses t (Stand p) Full
  pub stand_room : (t : World) (p : Property Range Range) → length t.properties < 64 → Spares t (Stand p) Full
  -- to alter or to ask needs no room
  pub alter : (t : World) (f p : ℕ) (r : Rule Range Range) → Spares t (Alter f p r) Full
  pub ask : (t : World) (p : Property Range Range) → Spares t (Ask p) Full
  -- rules are counted over all lists
  pub counted : count_rules chain.lists ≡ 2
  pub counted_more : count_rules sieved.lists ≡ 2

-- 5: the wholes are 0-1000
pub record Wholes : Type 0 where
  pub give : Refuses one (Give 1 (range 0 1001 tt)) Outside
  pub give_inside : Spares one (Give 1 (range 0 1000 tt)) Outside
  pub place_source : Refuses one (Place 0 0 (rule (range 0 1001 tt) whole whole Accept)) Outside
  pub place_destination : Refuses one (Place 0 0 (rule whole (range 1001 1001 tt) whole Accept)) Outside
  pub place_rest : Refuses one (Place 0 0 (rule whole whole (range 1000 1001 tt) Accept)) Outside
  pub place_inside : Spares one (Place 0 0 (rule whole whole whole Accept)) Outside
  pub alter_source : Refuses one (Alter 0 0 (rule (range 0 1001 tt) whole whole Accept)) Outside
  pub alter_inside : Spares one (Alter 0 0 (rule whole whole whole Accept)) Outside
  pub stand_source : Refuses one (Stand (property Accept 0 1 (range 0 1001 tt) whole)) Outside
  pub stand_destination : Refuses one (Stand (property Accept 0 1 whole (range 0 1001 tt))) Outside
  pub stand_rest : Refuses one (Stand (record { sort = Accept; from = 0; to = 1; source = whole; destination = whole; rest = range 0 1001 tt })) Outside
  pub stand_inside : Spares one (Stand (property Accept 0 1 whole whole)) Outside
  pub ask_source : Refuses one (Ask (property Accept 0 1 (range 0 1001 tt) whole)) Outside
  pub ask_inside : Spares one (Ask (property Accept 0 1 whole whole)) Outside
  pub send_source : Refuses one (Send (header 1001 0 0)) Outside
  pub send_destination : Refuses one (Send (header 0 1001 0)) Outside
  pub send_rest : Refuses one (Send (header 0 0 1001)) Outside
  pub send_inside : Spares one (Send (header 1000 1000 1000)) Outside
  -- a call that names no region is inside
  pub attach : (t : World) (d i j : ℕ) (w : Decision) → Spares t (Attach d i j w) Outside
  pub lift : (t : World) (f p : ℕ) → Spares t (Lift f p) Outside

-- 6: blocks
pub record Sharing : Type 0 where
  -- 9 is in 3-9 and in 9-12
  pub shared : Refuses owned (Give 1 (range 9 12 tt)) (Overlap 0)
  pub beside : (b : ℕ) → Spares owned (Give 1 (range 10 12 tt)) (Overlap b)
  -- 25 is in block 1, 20-30, and not in block 0, 3-9
  pub second : Refuses twice (Give 1 (range 25 26 tt)) (Overlap 1)
  pub not_first : Spares twice (Give 1 (range 25 26 tt)) (Overlap 0)
  -- of two, the first is named
  pub both : Refuses twice (Give 1 (range 9 20 tt)) (Overlap 0)
  pub not_second : Spares twice (Give 1 (range 9 20 tt)) (Overlap 1)

-- 7: the domains of a property
pub record Joining : Type 0 where
  pub equal : Refuses one (Stand (property Accept 1 1 whole whole)) Unjoined
  pub equal_ask : Refuses one (Ask (property Discard 0 0 whole whole)) Unjoined
  -- 0 and 2 share no firewall
  pub apart : Refuses chain (Stand (property Discard 0 2 whole whole)) Unjoined
  pub apart_ask : Refuses chain (Ask (property Discard 2 0 whole whole)) Unjoined
  pub apart_accept : Spares chain (Stand (property Accept 0 2 whole whole)) Unjoined
  -- 1 and 2 do
  pub siblings : Spares fork (Stand (property Discard 1 2 whole whole)) Unjoined
  pub down : Spares one (Stand (property Discard 0 1 whole whole)) Unjoined
  pub up : Spares one (Stand (property Discard 1 0 whole whole)) Unjoined

-- 8: an accept property's source, in its first domain
pub record Sources : Type 0 where
  -- 3-9 is of domain 1, and 10 is not
  pub astray : Refuses owned (Stand (property Accept 1 0 (range 3 10 tt) (range 500 600 tt))) (SourceAstray 10)
  pub asked : Refuses owned (Ask (property Accept 1 0 (range 3 10 tt) (range 500 600 tt))) (SourceAstray 10)
  pub at_home : Spares owned (Stand (property Accept 1 0 (range 3 10 tt) (range 500 600 tt))) (SourceAstray 9)
  -- what the source does not hold does not count
  pub elsewhere : Spares owned (Stand (property Accept 1 0 (range 3 10 tt) (range 500 600 tt))) (SourceAstray 11)
  -- domain 0 has what no block holds
  pub zero_astray : Refuses owned (Stand (property Accept 0 1 (range 9 12 tt) (range 3 9 tt))) (SourceAstray 9)
  pub zero_at_home : Spares owned (Stand (property Accept 0 1 (range 9 12 tt) (range 3 9 tt))) (SourceAstray 10)
  -- the source of discard is free
  pub free : (t : World) (u v : ℕ) (s d : Range) (a : ℕ) → Spares t (Stand (property Discard u v s d)) (SourceAstray a)

-- 9: either sort's destination, in its second domain
pub record Destinations : Type 0 where
  pub astray : Refuses owned (Stand (property Accept 0 1 (range 500 600 tt) (range 3 10 tt))) (DestinationAstray 10)
  pub asked : Refuses owned (Ask (property Accept 0 1 (range 500 600 tt) (range 3 10 tt))) (DestinationAstray 10)
  pub discard_astray : Refuses owned (Stand (property Discard 0 1 whole (range 3 10 tt))) (DestinationAstray 10)
  pub at_home : Spares owned (Stand (property Discard 0 1 whole (range 3 10 tt))) (DestinationAstray 9)
  pub elsewhere : Spares owned (Stand (property Discard 0 1 whole (range 3 10 tt))) (DestinationAstray 11)

-- 10: an edit leaves no packet of the whole unmatched
pub record Matching : Type 0 where
  -- the last interface is 31
  pub lifted : Refuses one (Lift 0 0) (Unmatched (packet 31 1000 0 1000))
  pub above : Spares one (Lift 0 0) (Unmatched (packet 32 1000 0 1000))
  -- a packet that is not of the whole does not count
  pub source : Spares one (Lift 0 0) (Unmatched (packet 31 1001 0 0))
  pub destination : Spares one (Lift 0 0) (Unmatched (packet 31 0 1001 0))
  pub rest : Spares one (Lift 0 0) (Unmatched (packet 31 0 0 1001))
  -- the only rule altered to 0-999 leaves 1000, of each part
  pub altered_source : Refuses one (Alter 0 0 (rule (range 0 999 tt) whole whole Accept)) (Unmatched (packet 0 1000 0 0))
  pub altered_destination : Refuses one (Alter 0 0 (rule whole (range 0 999 tt) whole Accept)) (Unmatched (packet 0 0 1000 0))
  pub altered_rest : Refuses one (Alter 0 0 (rule whole whole (range 0 999 tt) Accept)) (Unmatched (packet 0 0 0 1000))
  pub matched : Spares one (Alter 0 0 (rule (range 0 999 tt) whole whole Accept)) (Unmatched (packet 0 999 0 0))
  -- only the rule for interfaces 1 to 31 is left
  pub altered_interface : Refuses one (Alter 0 0 (record { interfaces = mask 0xffff_fffe tt tt; source = whole; destination = whole; rest = whole; decision = Accept })) (Unmatched (packet 0 0 0 0))
  -- the rule for everything is left
  pub covered : (k : Packet ℕ ℕ) → Spares sieved (Lift 0 0) (Unmatched k)
  -- to place one more leaves none
  pub place : (t : World) (f p : ℕ) (r : Rule Range Range) (k : Packet ℕ ℕ) → Spares t (Place f p r) (Unmatched k)

-- 11: give and take leave what stands well placed
pub record Placing : Type 0 where
  -- without 3-9 in domain 1 the source is astray
  pub taken_source : Refuses (next letting (Stand outward)) (Take 0) (Misplaced 0 5)
  pub taken_other : Spares (next letting (Stand outward)) (Take 0) (Misplaced 0 550)
  -- the source is well, and the destination astray
  pub taken_destination : Refuses (next letting (Stand inward)) (Take 0) (Misplaced 0 7)
  -- 555 is of domain 0 no more
  pub given_destination : Refuses (next letting (Stand outward)) (Give 1 (range 555 560 tt)) (Misplaced 0 555)
  pub given_source : Spares (next letting (Stand outward)) (Give 1 (range 555 560 tt)) (Misplaced 0 5)
  -- of two properties, the first that is misplaced
  pub later : Refuses (next (next letting (Stand (property Accept 0 1 (range 500 600 tt) (range 3 9 tt)))) (Stand (property Accept 0 1 (range 700 800 tt) (range 3 9 tt)))) (Give 1 (range 750 760 tt)) (Misplaced 1 750)
  pub not_first : Spares (next (next letting (Stand (property Accept 0 1 (range 500 600 tt) (range 3 9 tt)))) (Stand (property Accept 0 1 (range 700 800 tt) (range 3 9 tt)))) (Give 1 (range 750 760 tt)) (Misplaced 0 750)
  -- where both are astray, the source is shown
  pub both_source : Refuses (next (next fork (Give 1 (range 3 9 tt))) (Stand crossing)) (Take 0) (Misplaced 0 5)
  pub not_destination : Spares (next (next fork (Give 1 (range 3 9 tt))) (Stand crossing)) (Take 0) (Misplaced 0 550)
  -- only give and take
  pub stand : (t : World) (p : Property Range Range) (n a : ℕ) → Spares t (Stand p) (Misplaced n a)

-- 12: lists keep what stands
pub record Keeping : Type 0 where
  -- an accept in front of the discard
  pub placed : Refuses (next owned (Stand closed)) (Place 0 0 (rule whole whole whole Accept)) (Breaks 0 0 (packet 0 100 5 0))
  -- the packet enters by interface 0, and has its parts in the property's
  pub entered : Spares (next owned (Stand closed)) (Place 0 0 (rule whole whole whole Accept)) (Breaks 0 0 (packet 1 100 5 0))
  pub parts : Spares (next owned (Stand closed)) (Place 0 0 (rule whole whole whole Accept)) (Breaks 0 0 (packet 0 100 10 0))
  -- behind the discard it does nothing
  pub behind : (n f : ℕ) (k : Packet ℕ ℕ) → Spares (next owned (Stand closed)) (Place 0 1 (rule whole whole whole Accept)) (Breaks n f k)
  pub altered : Refuses (next owned (Stand closed)) (Alter 0 0 (rule whole whole whole Accept)) (Breaks 0 0 (packet 0 100 5 0))
  -- without the accept in front, the discard breaks it
  pub lifted : Refuses (next sieved (Stand inward)) (Lift 0 0) (Breaks 0 0 (packet 0 550 5 0))
  -- of two that stand, the one that is broken
  pub second : Refuses (next (next owned (Stand closed_low)) (Stand closed_high)) (Place 0 0 (rule (range 100 200 tt) whole whole Accept)) (Breaks 1 0 (packet 0 100 5 0))
  pub not_first : (f : ℕ) (k : Packet ℕ ℕ) → Spares (next (next owned (Stand closed_low)) (Stand closed_high)) (Place 0 0 (rule (range 100 200 tt) whole whole Accept)) (Breaks 0 f k)
  -- one that is offered broken is numbered next
  pub offered : Refuses (next letting (Stand outward)) (Stand closed) (Breaks 1 0 (packet 0 100 5 0))
  pub offered_zero : (k : Packet ℕ ℕ) → Spares (next letting (Stand outward)) (Stand closed) (Breaks 0 0 k)
  -- to ask breaks nothing
  pub ask : (t : World) (p : Property Range Range) (n f : ℕ) (k : Packet ℕ ℕ) → Spares t (Ask p) (Breaks n f k)

-- the sorts of calls, numbered in their order
abbrev pub sort : Calls → ℕ
sort (Attach d i j w) = 1
sort (Branch f i) = 2
sort (Give d x) = 3
sort (Take b) = 4
sort (Place f p r) = 5
sort (Alter f p r) = 6
sort (Lift f p) = 7
sort (Stand p) = 8
sort (Withdraw n) = 9
sort (Ask p) = 10
sort (Send h) = 11

abbrev pub Among : ℕ → List ℕ → Type 0
Among n [] = ⊥
Among n (m ∷ ms) = (n ≡ m) ⊎ Among n ms

-- only calls of these sorts are refused so
abbrev pub Only : Refusal ℕ ℕ → List ℕ → Type 0
Only r ns = (t : World) (c : Calls) → Refuses t c r → Among (sort c) ns

pub record Sorts : Type 0 where
  -- attach and branch
  pub interfaces : Only BadInterface (1 ∷ (2 ∷ []))
  -- attach, branch, give, place and stand
  pub full : Only Full (1 ∷ (2 ∷ (3 ∷ (5 ∷ (8 ∷ [])))))
  -- give, place, alter, stand, ask and send
  pub outside : Only Outside (3 ∷ (5 ∷ (6 ∷ (8 ∷ (10 ∷ (11 ∷ []))))))
  -- give
  pub overlap : (b : ℕ) → Only (Overlap b) (3 ∷ [])
  -- stand and ask
  pub unjoined : Only Unjoined (8 ∷ (10 ∷ []))
  pub source : (a : ℕ) → Only (SourceAstray a) (8 ∷ (10 ∷ []))
  pub destination : (a : ℕ) → Only (DestinationAstray a) (8 ∷ (10 ∷ []))
  -- alter and lift
  pub unmatched : (k : Packet ℕ ℕ) → Only (Unmatched k) (6 ∷ (7 ∷ []))
  -- give and take
  pub misplaced : (m : ℕ) (a : ℕ) → Only (Misplaced m a) (3 ∷ (4 ∷ []))
  -- place, alter, lift and stand
  pub breaks : (m : ℕ) (g : ℕ) (k : Packet ℕ ℕ) → Only (Breaks m g k) (5 ∷ (6 ∷ (7 ∷ (8 ∷ []))))

-- a right answer, with slices just long enough
abbrev pub Answers : World → Calls → Answer ℕ ℕ → Type 0
Answers t c a = Right range_holds range_holds t c enough a

-- what a call answers where it is not refused
abbrev pub Says : World → Calls → Answer ℕ ℕ → Type 0
Says t c a = Said range_holds range_holds t c a

pub record Answering : Type 0 where
  -- the next firewall and domain
  pub attach : Answers alone (Attach 0 0 1 Discard) (Attached 0 1)
  pub branch : Answers one (Branch 0 2) (Branched 2)
  pub give : Answers one (Give 1 (range 3 9 tt)) Done
  -- the others that edit are done
  pub take : (t : World) (b : ℕ) → Says t (Take b) Done
  pub place : (t : World) (f p : ℕ) (r : Rule Range Range) → Says t (Place f p r) Done
  pub alter : (t : World) (f p : ℕ) (r : Rule Range Range) → Says t (Alter f p r) Done
  pub lift : (t : World) (f p : ℕ) → Says t (Lift f p) Done
  pub stand : (t : World) (p : Property Range Range) → Says t (Stand p) Done
  pub withdraw : (t : World) (n : ℕ) → Says t (Withdraw n) Done
  -- the refusal with the smallest number
  pub smallest : Answers one (Attach 2 32 0 Accept) (Refused NoSuch)
  pub not_smallest : Answers one (Attach 2 32 0 Accept) (Refused BadInterface) → ⊥
  -- a call that is refused has no other answer, and one that is not has no refusal
  pub not_done : Answers one (Give 0 (range 3 9 tt)) Done → ⊥
  pub not_refused : Answers alone (Attach 0 0 1 Discard) (Refused Full) → ⊥

pub record Asking : Type 0 where
  -- the firewall discards
  pub kept : Says owned (Ask closed) Kept
  pub broken : Says owned (Ask inward) (Broken 0 (packet 0 550 5 0))
  pub entered : Says owned (Ask inward) (Broken 0 (packet 1 550 5 0)) → ⊥
  pub not_kept : Says owned (Ask inward) Kept → ⊥
  -- an earlier accept covers it, up to 600
  pub covered : Says sieved (Ask inward) Kept
  pub beyond : Says sieved (Ask (property Accept 0 1 (range 500 601 tt) (range 3 9 tt))) (Broken 0 (packet 0 601 5 0))
  -- from domain 1, by interface 1
  pub upward : Says owned (Ask outward) (Broken 0 (packet 1 5 550 0))
  -- of two firewalls that discard, the first on the way
  pub nearer : Says below (Ask downward) (Broken 0 (packet 0 550 5 0))
  pub not_farther : (k : Packet ℕ ℕ) → Says below (Ask downward) (Broken 1 k) → ⊥
  -- where the first accepts, the second, entered by its interface 2
  pub farther : Says deep (Ask downward) (Broken 1 (packet 2 550 5 0))
  -- unmatched is neither accepted nor discarded
  pub neither : (rs : List (Rule Range Range)) (k : Packet ℕ ℕ) → packets.Unmatched range_holds range_holds rs k
      → (packets.Accepted range_holds range_holds rs k → ⊥) × (packets.Discarded range_holds range_holds rs k → ⊥)

pub record Sending : Type 0 where
  -- within domain 1, and within domain 0
  pub inside : Says owned (Send (header 3 9 0)) Passed
  pub outside : Says owned (Send (header 500 600 0)) Passed
  pub stopped : Says owned (Send (header 500 5 0)) (Stopped 0 0)
  -- by the second rule
  pub stopped_later : Says sieved (Send (header 601 5 0)) (Stopped 0 1)
  pub passed : Says sieved (Send (header 600 5 0)) Passed
  -- at the first firewall that discards
  pub nearer : Says below (Send (header 500 5 0)) (Stopped 0 0)
  pub farther : Says deep (Send (header 500 5 0)) (Stopped 1 0)
  pub not_passed : Says owned (Send (header 500 5 0)) Passed → ⊥

-- an entry of a record
abbrev pub entry : Calls → Answer ℕ ℕ → Recorded Range Range ℕ ℕ
entry c a = record { call = c; lent = enough; answer = a }

pub record Recording : Type 0 where
  -- the wholes and domain 0 alone
  pub made : plain {V = ℕ} {W = ℕ} whole (range 0 7 tt) [] ≡ record { addresses = whole; rests = range 0 7 tt; shape = record { firewalls = []; domains = [] }; lists = []; blocks = []; properties = [] }
  -- each call is done
  pub done : plain whole whole (entry (Attach 0 0 1 Discard) (Attached 0 1) ∷ (entry (Give 1 (range 3 9 tt)) Done ∷ [])) ≡ owned
  -- a refused one leaves the tree
  pub refused : plain whole whole (entry (Attach 0 0 1 Discard) (Attached 0 1) ∷ (entry (Give 1 (range 3 9 tt)) (Refused Full) ∷ [])) ≡ one
  pub lawful : Lawful range_holds range_holds whole whole (entry (Attach 0 0 1 Discard) (Attached 0 1) ∷ [])
  pub unlawful : Lawful range_holds range_holds whole whole (entry (Attach 0 0 1 Discard) (Attached 0 2) ∷ []) → ⊥
  -- what stands must be guarded
  pub guarded : Lawful range_holds range_holds whole whole (entry (Attach 0 0 1 Discard) (Attached 0 1) ∷ (entry (Give 1 (range 3 9 tt)) Done ∷ (entry (Stand inward) Done ∷ []))) → ⊥

-- what the calls make of lists, blocks and properties
pub record Effects : Type 0 where
  pub attached : rules_of one 0 ≡ rule whole whole whole Discard ∷ []
  pub placed_first : rules_of sieved 0 ≡ rule (range 500 600 tt) whole whole Accept ∷ (rule whole whole whole Discard ∷ [])
  pub placed_last : rules_of (next one (Place 0 1 (rule whole whole whole Accept))) 0 ≡ rule whole whole whole Discard ∷ (rule whole whole whole Accept ∷ [])
  pub altered : rules_of (next sieved (Alter 0 1 (rule whole whole whole Accept))) 0 ≡ rule (range 500 600 tt) whole whole Accept ∷ (rule whole whole whole Accept ∷ [])
  pub lifted : rules_of (next sieved (Lift 0 0)) 0 ≡ rule whole whole whole Discard ∷ []
  -- firewall 1's list alone
  pub other : rules_of (next chain (Place 1 0 (rule whole whole whole Accept))) 0 ≡ rule whole whole whole Discard ∷ []
  pub given : owned.blocks ≡ record { region = range 3 9 tt; domain = 1 } ∷ []
  -- the blocks after one that is taken move up
  pub taken : (next twice (Take 0)).blocks ≡ record { region = range 20 30 tt; domain = 1 } ∷ []
  pub stood : (next (next letting (Stand outward)) (Stand inward)).properties ≡ outward ∷ (inward ∷ [])
  pub withdrawn : (next (next (next letting (Stand outward)) (Stand inward)) (Withdraw 0)).properties ≡ inward ∷ []
  -- to ask or to send changes nothing
  pub asked : (t : World) (p : Property Range Range) → next t (Ask p) ≡ t
  pub sent : (t : World) (h : Header ℕ ℕ) → next t (Send h) ≡ t

pub record Samples : Type 0 where
  pub lengths : Lengths
  pub missing : Missing
  pub interfaces : Interfaces
  pub edges : Edges
  pub wholes : Wholes
  pub sharing : Sharing
  pub joining : Joining
  pub sources : Sources
  pub destinations : Destinations
  pub matching : Matching
  pub placing : Placing
  pub keeping : Keeping
  pub sorts : Sorts
  pub answering : Answering
  pub asking : Asking
  pub sending : Sending
  pub recording : Recording
  pub effects : Effects
