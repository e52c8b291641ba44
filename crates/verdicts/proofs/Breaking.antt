-- Breaks of a property in the hops of its route.
use Rattle.std.proofs.Common.{◌≡◌, ℕ, ◌<◌, ◌≤◌, List, length, take, drop, Some, None, Option, refl, sym, subst, arith, length-take}
use Rattle.kinds.specs.Masks.{low_bit}
use Rattle.search.specs.First.{First, Nowhere}
use Rattle.model.specs.Limits.{max_interfaces, max_list}
use Rattle.model.specs.Packets.{Decided}
use Rattle.model.specs.Properties.{BreaksIn, BrokenIn, BreaksFirst, Kept}
use Rattle.model.specs.Shape.{Shape, Route}
use Rattle.model.specs.Tree.{Tree, rules_of}
use Rattle.model.specs.declared.path.Hop.{Hop}
use Rattle.model.specs.declared.rules.Decision.{Decision}
use Rattle.model.specs.declared.rules.Packet.{Packet}
use Rattle.model.specs.declared.rules.Property.{Property}
use Rattle.model.specs.declared.rules.Rule.{Rule}
use Rattle.lists.specs.Lengths.{lengths_of, length_at, start_of}
use Rattle.lists.specs.declared.table.ListTable.{ListTable}
use Rattle.lists.proofs.Bounds.{length_max}
use Rattle.checks.specs.Breaks.{decided_against, BreaksList, BreakFound}
use Rattle.verdicts.proofs.Edits.{against_decided, decided_against_is}
use Rattle.verdicts.specs.Asked.{HopFound}

-- no more rows are a list's than it may have
pub list_short : {Y : Type 0} (lists : ListTable) (rules : List Y) (f : ℕ) → length (take (length_at (lengths_of lists) f) (drop (start_of (lengths_of lists) f) rules)) ≤ max_list
list_short lists rules f =
    let most = length_max lists f in
    let size = length-take (length_at (lengths_of lists) f) (drop (start_of (lengths_of lists) f) rules) in
    omega arith

module _ {A R V W : Type 0} (addr : A → V → Type 0) (rests : R → W → Type 0) where
  -- a packet that is decided is on an interface that there is
  decided_low : (rs : List (Rule A R)) (k : Packet V W) (n : ℕ) (w : Decision) → Decided addr rests rs k n w → k.interface < max_interfaces
  decided_low rs k n w (r, first, is) = low_bit r.interfaces.mask k.interface r.interfaces.few first.fit.interface

  module _ (t : Tree A R) (p : Property A R) where
    list_in : (h : Hop) (k : Packet V W) → BreaksList addr rests (rules_of t h.firewall) p h.entered k → BreaksIn addr rests t p h k
    list_in h k b = record {
      source = b.source;
      destination = b.destination;
      rest = b.rest;
      entered = b.entered;
      against = decided_against_is addr rests p.sort (rules_of t h.firewall) k b.against;
    }

    in_list : (h : Hop) (k : Packet V W) → BreaksIn addr rests t p h k → BreaksList addr rests (rules_of t h.firewall) p h.entered k
    in_list h k b =
        let rs = rules_of t h.firewall in
        let (n, decided) = against_decided addr rests p.sort rs k b.against in
        record {
          source = b.source;
          destination = b.destination;
          rest = b.rest;
          entered = b.entered;
          real = subst (λ i. i < max_interfaces) b.entered (decided_low rs k n (decided_against p.sort) decided);
          against = (n, decided);
        }

    -- what the list of a hop's firewall tells, told of the hop
    pub hop_found : (h : Hop) (r : Option (Packet V W)) → BreakFound addr rests (rules_of t h.firewall) p h.entered r → HopFound addr rests t p h r
    hop_found h None none = λ broken. none broken.0 (in_list h broken.0 broken.1)
    hop_found h (Some k) breaks = list_in h k breaks

    -- what the hops of the route tell, told of the property
    module _ (s : Shape) (is : s ≡ t.shape) where
      pub broken_first : (h : Hop) (k : Packet V W) → BreaksIn addr rests t p h k → (hs : List Hop) × (n : ℕ) × Route s p.from p.to hs × First (BrokenIn addr rests t p) hs n h → BreaksFirst addr rests t p h.firewall k
      broken_first h k b (hs, n, route, first) =
          record { hops = hs; place = n; hop = h; route = subst (λ x. Route x p.from p.to hs) is route; first = first; named = refl; breaks = b }

      pub nowhere_kept : ((hs : List Hop) → Route s p.from p.to hs → Nowhere (BrokenIn addr rests t p) hs) → Kept addr rests t p
      nowhere_kept none f k b = none b.hops (subst (λ x. Route x p.from p.to b.hops) (sym is) b.route) b.place b.hop b.on (k, b.breaks)
