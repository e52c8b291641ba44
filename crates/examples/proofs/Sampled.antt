-- The samples of the refusals 1 to 7 hold.
use Rattle.std.proofs.Common.{◌≡◌, ℕ, zero, suc, ◌⊎◌, [], ◌∷◌, Some, refl, ap, inl, inr, arith}
use Rattle.std.specs.List.{slice_get}
use Rattle.forms.specs.Range.{range_holds}
use Rattle.kinds.specs.Words.{Share}
use Rattle.forms.specs.declared.range.Range.{Range}
use Rattle.kinds.proofs.Provided.{none_some}
use Rattle.search.proofs.Positions.{before_none, before_more, before_all}
use Rattle.examples.specs.Examples.{range}
use Rattle.examples.specs.Samples.{Lengths, Missing, Interfaces, Edges, Wholes, Sharing, Joining, one, owned, twice, chain}
use Rattle.model.specs.Shape.{Joined}
use Rattle.model.specs.Tree.{Block}
use Rattle.model.specs.declared.path.Uplink.{Uplink}

module _ {X : Type 0} where
  -- what stands in a list of one, or of two
  pub only_one : (x y : X) (k : ℕ) → slice_get (x ∷ []) k ≡ Some y → (k ≡ 0) × (x ≡ y)
  only_one x y zero e = (refl, cc)
  only_one x y (suc k) e = none_some e

  pub only_two : (x y z : X) (k : ℕ) → slice_get (x ∷ (y ∷ [])) k ≡ Some z → ((k ≡ 0) × (x ≡ z)) ⊎ ((k ≡ 1) × (y ≡ z))
  only_two x y z zero e = inl (refl, cc)
  only_two x y z (suc zero) e = inr (refl, cc)
  only_two x y z (suc (suc k)) e = none_some e

link : (a i b j : ℕ) → ◌≡◌ {A = Uplink} (record { node = a; interface = i }) (record { node = b; interface = j }) → (a ≡ b) × (i ≡ j)
link a i b j e = (ap (λ (x : Uplink). x.node) e, ap (λ (x : Uplink). x.interface) e)

-- what is joined in a tree of one firewall
pub one_joined : (f d i : ℕ) → Joined one.shape f d i → (f ≡ 0) × (((d ≡ 0) × (i ≡ 0)) ⊎ ((d ≡ 1) × (i ≡ 1)))
one_joined f d i (inl e) = let o = only_one _ _ f e in let l = link 0 0 d i o.1 in (o.0, inl (omega arith))
one_joined f d i (inr (k, is, e)) = let o = only_one _ _ k e in let l = link 0 1 f i o.1 in (omega arith, inr (omega arith))

-- and in the chain
pub chain_joined : (f d i : ℕ) → Joined chain.shape f d i
    → ((f ≡ 0) × (((d ≡ 0) × (i ≡ 0)) ⊎ ((d ≡ 1) × (i ≡ 1)))) ⊎ ((f ≡ 1) × (((d ≡ 1) × (i ≡ 2)) ⊎ ((d ≡ 2) × (i ≡ 3))))
chain_joined f d i (inl e) = elim (only_two _ _ _ f e) [
  | inl o ↦ let l = link 0 0 d i o.1 in inl (o.0, inl (omega arith))
  | inr o ↦ let l = link 1 2 d i o.1 in inr (o.0, inl (omega arith))
]
chain_joined f d i (inr (k, is, e)) = elim (only_two _ _ _ k e) [
  | inl o ↦ let l = link 0 1 f i o.1 in inl (omega arith, inr (omega arith))
  | inr o ↦ let l = link 1 3 f i o.1 in inr (omega arith, inr (omega arith))
]

pub lengths : Lengths
lengths = record {
  rules = λ t c. inl (omega arith);
  blocks = λ t c. inr (inl (omega arith));
  properties = λ t c. inr (inr (inl (omega arith)));
  packet_frames = λ t c. inr (inr (inr (inl (omega arith))));
  address_frames = λ t c. inr (inr (inr (inr (omega arith))));
  long_enough = λ t c h. omega arith;
}

pub missing : Missing
missing = record {
  attach = λ h. omega arith;
  attach_there = λ n. n (omega arith);
  branch = λ h. omega arith;
  branch_there = λ n. n (omega arith);
  give_zero = inl refl;
  give = inr (λ h. omega arith);
  give_there = λ h. elim h [ inl e ↦ omega arith | inr n ↦ n (omega arith) ];
  take = omega arith;
  take_there = λ h. omega arith;
  place = inl (λ h. omega arith);
  place_beyond = inr (omega arith);
  place_last = λ h. elim h [ inl n ↦ n (omega arith) | inr l ↦ omega arith ];
  alter = inl (λ h. omega arith);
  alter_beyond = inr (omega arith);
  alter_last = λ h. elim h [ inl n ↦ n (omega arith) | inr l ↦ omega arith ];
  lift = inl (λ h. omega arith);
  lift_beyond = inr (omega arith);
  lift_last = λ h. elim h [ inl n ↦ n (omega arith) | inr l ↦ omega arith ];
  stand_from = inl (λ h. omega arith);
  stand_to = inr (λ h. omega arith);
  stand_there = λ h. elim h [ inl n ↦ n (omega arith) | inr n ↦ n (omega arith) ];
  ask_from = inl (λ h. omega arith);
  ask_to = inr (λ h. omega arith);
  ask_there = λ h. elim h [ inl n ↦ n (omega arith) | inr n ↦ n (omega arith) ];
  withdraw = omega arith;
  withdraw_there = λ h. omega arith;
  send = λ t h r. r;
}

pub interfaces : Interfaces
interfaces = record {
  upper = inl (omega arith);
  lower = inr (inl (omega arith));
  equal = inr (inr refl);
  attach_free = λ h. omega arith;
  attach_free_too = λ h. omega arith;
  branch = inl (omega arith);
  used_above = inr (0, inl refl);
  used_below = inr (1, inr (0, refl, refl));
  branch_free = λ h. elim h [ inl l ↦ omega arith | inr (d, j) ↦ let o = one_joined 0 d 31 j in omega arith ];
  used_there = inr (1, inl refl);
  free_here = λ h. elim h [ inl l ↦ omega arith | inr (d, j) ↦ let o = chain_joined 0 d 2 j in omega arith ];
}

pub edges : Edges
edges = record {
  branch = λ t f i h. omega arith;
  branch_room = λ t f i h k. omega arith;
  attach = λ t d i j w h. inl (omega arith);
  attach_rules = λ t d i j w h. inr (omega arith);
  attach_room = λ t d i j w h k l. omega arith;
  give = λ t d x h. omega arith;
  give_room = λ t d x h k. omega arith;
  place = λ t f p r h. inl (omega arith);
  place_rules = λ t f p r h. inr (omega arith);
  place_room = λ t f p r h k l. omega arith;
  stand = λ t p h. omega arith;
  stand_room = λ t p h k. omega arith;
  alter = λ t f p r h. h;
  ask = λ t p h. h;
  counted = refl;
  counted_more = refl;
}

pub wholes : Wholes
wholes = record {
  give = λ h. let x = h 1001 (omega arith, omega arith) in omega arith;
  give_inside = λ n. n (λ v h. h);
  place_source = λ h. let x = h.source 1001 (omega arith, omega arith) in omega arith;
  place_destination = λ h. let x = h.destination 1001 (omega arith, omega arith) in omega arith;
  place_rest = λ h. let x = h.rest 1001 (omega arith, omega arith) in omega arith;
  place_inside = λ n. n (record { source = λ v h. h; destination = λ v h. h; rest = λ v h. h });
  alter_source = λ h. let x = h.source 1001 (omega arith, omega arith) in omega arith;
  alter_inside = λ n. n (record { source = λ v h. h; destination = λ v h. h; rest = λ v h. h });
  stand_source = λ h. let x = h.source 1001 (omega arith, omega arith) in omega arith;
  stand_destination = λ h. let x = h.destination 1001 (omega arith, omega arith) in omega arith;
  stand_rest = λ h. let x = h.rest 1001 (omega arith, omega arith) in omega arith;
  stand_inside = λ n. n (record { source = λ v h. h; destination = λ v h. h; rest = λ v h. h });
  ask_source = λ h. let x = h.source 1001 (omega arith, omega arith) in omega arith;
  ask_inside = λ n. n (record { source = λ v h. h; destination = λ v h. h; rest = λ v h. h });
  send_source = λ h. omega arith;
  send_destination = λ h. omega arith;
  send_rest = λ h. omega arith;
  send_inside = λ n. n ((omega arith, omega arith), (omega arith, omega arith), (omega arith, omega arith));
  attach = λ t d i j w n. n tt;
  lift = λ t f p n. n tt;
}

-- a block of domain 1
abbrev pub block : Range → Block Range
block x = record { region = x; domain = 1 }

abbrev SharingWith : Range → Block Range → Type 0
SharingWith x z = Share (range_holds z.region) (range_holds x)

pub sharing : Sharing
sharing = record {
  shared = (block (range 3 9 tt), record { here = refl; fit = (9, (omega arith, omega arith), (omega arith, omega arith)); before = before_none _ owned.blocks });
  beside = λ b (y, f).
      before_all (SharingWith (range 10 12 tt)) owned.blocks 1 (omega arith)
      (before_more _ owned.blocks 0 (block (range 3 9 tt)) refl (before_none _ owned.blocks) (λ (v, h, k). omega arith)) b y f.here f.fit;
  second = (
    block (range 20 30 tt),
    record {
      here = refl;
      fit = (25, (omega arith, omega arith), (omega arith, omega arith));
      before = before_more _ twice.blocks 0 (block (range 3 9 tt)) refl (before_none _ twice.blocks) (λ (v, h, k). omega arith);
    },
  );
  not_first = λ (y, f).
      before_more (SharingWith (range 25 26 tt)) twice.blocks 0 (block (range 3 9 tt)) refl (before_none _ twice.blocks) (λ (v, h, k). omega arith) 0 y (omega arith) f.here f.fit;
  both = (block (range 3 9 tt), record { here = refl; fit = (9, (omega arith, omega arith), (omega arith, omega arith)); before = before_none _ twice.blocks });
  not_second = λ (y, f). f.before 0 (block (range 3 9 tt)) (omega arith) refl (9, (omega arith, omega arith), (omega arith, omega arith));
}

pub joining : Joining
joining = record {
  equal = inl refl;
  equal_ask = inl refl;
  apart = inr (refl, λ (f, i, j, a, b). let x = chain_joined f 0 i a in let y = chain_joined f 2 j b in omega arith);
  apart_ask = inr (refl, λ (f, i, j, a, b). let x = chain_joined f 2 i a in let y = chain_joined f 0 j b in omega arith);
  apart_accept = λ h. elim h [ inl e ↦ omega arith | inr (is, n) ↦ let z : ◌≡◌ {A = ℕ} 0 1 = cc in omega arith ];
  siblings = λ h. elim h [ inl e ↦ omega arith | inr (is, n) ↦ n (0, 1, 2, inr (0, refl, refl), inr (1, refl, refl)) ];
  down = λ h. elim h [ inl e ↦ omega arith | inr (is, n) ↦ n (0, 0, 1, inl refl, inr (0, refl, refl)) ];
  up = λ h. elim h [ inl e ↦ omega arith | inr (is, n) ↦ n (0, 1, 0, inr (0, refl, refl), inl refl) ];
}
