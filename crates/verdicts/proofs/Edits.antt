-- What another list for one firewall does to a property that was kept.
use Rattle.std.proofs.Common.{◌≡◌, ℕ, ◌<◌, List, [], length, Some, None, Option, unwrap_or, sym, refl, ap, ◌∙◌, subst}
use Rattle.std.specs.List.{slice_get}
use Rattle.search.specs.First.{First}
use Rattle.search.proofs.Positions.{nth_set_same}
use Rattle.model.specs.Limits.{max_interfaces}
use Rattle.model.specs.Packets.{Decided}
use Rattle.model.specs.Properties.{Against, BreaksIn, BreaksFirst, Kept}
use Rattle.model.specs.Refusals.{Broken}
use Rattle.model.specs.Shape.{Route, Sound}
use Rattle.model.specs.Tree.{Tree, rules_of, with_rules}
use Rattle.model.specs.declared.path.Hop.{Hop}
use Rattle.model.specs.declared.rules.Decision.{Decision}
use Rattle.model.specs.declared.rules.Decision.TheVariants.{Accept, Discard}
use Rattle.model.specs.declared.rules.Packet.{Packet}
use Rattle.model.specs.declared.rules.Property.{Property}
use Rattle.model.specs.declared.rules.Rule.{Rule}
use Rattle.model.proofs.Meanings.{breaks_there_only}
use Rattle.model.proofs.Routes.{route_one}
use Rattle.checks.specs.Breaks.{decided_against, BreaksList, BreakFound}
use Rattle.tree.specs.Path.{Through, HopThroughOf}
use Rattle.verdicts.specs.Edited.{BreakAtFound}
use Rattle.verdicts.proofs.Hops.{firewall_one, hop_joined}

module _ {A R V W : Type 0} (addr : A → V → Type 0) (rests : R → W → Type 0) where
  -- to decide against a sort is to have the other decision
  pub against_decided : (w : Decision) (rs : List (Rule A R)) (k : Packet V W) → Against addr rests w rs k → (n : ℕ) × Decided addr rests rs k n (decided_against w)
  against_decided Accept rs k h = h
  against_decided Discard rs k h = h

  pub decided_against_is : (w : Decision) (rs : List (Rule A R)) (k : Packet V W) → (n : ℕ) × Decided addr rests rs k n (decided_against w) → Against addr rests w rs k
  decided_against_is Accept rs k h = h
  decided_against_is Discard rs k h = h

  -- firewall f gets the list rs
  module _ (t : Tree A R) (f : ℕ) (rs : List (Rule A R)) (p : Property A R) (ok : Sound t.shape) where
    rules_there : f < length t.lists → rules_of (with_rules t f rs) f ≡ rs
    rules_there less = ap (λ (o : Option (List (Rule A R))). unwrap_or o []) (nth_set_same t.lists f rs less)

    module _ (kept : Kept addr rests t p) where
      -- a break is in a hop through f
      through : (g : ℕ) (k : Packet V W) (b : BreaksFirst addr rests (with_rules t f rs) p g k) → b.hop.firewall ≡ f
      through g k b =
          b.named ∙ breaks_there_only addr rests t f rs p kept g k (record { hops = b.hops; place = b.place; hop = b.hop; route = b.route; on = b.first.here; named = b.named; breaks = b.breaks })

      -- where the route does not go through f, no packet breaks the property
      pub off_route : HopThroughOf t.shape p.from p.to f None → Broken addr rests (with_rules t f rs) p → ⊥
      off_route none (g, k, b) = none b.hops b.route b.place b.hop b.first.here (through g k b)

      module _ (less : f < length t.lists) (h : Hop) (hs : List Hop) (j : ℕ) (route : Route t.shape p.from p.to hs) (at : First (Through f) hs j h) where
        low : h.entered < max_interfaces
        low = let (d, joined) = hop_joined t.shape hs p.from p.to route.walk j h at.here in ok.low h.firewall d h.entered joined

        rules_here : rules_of (with_rules t f rs) h.firewall ≡ rs
        rules_here = ap (rules_of (with_rules t f rs)) at.fit ∙ rules_there less

        broken_list : (k : Packet V W) → BreaksIn addr rests (with_rules t f rs) p h k → BreaksList addr rests rs p h.entered k
        broken_list k b = record {
          source = b.source;
          destination = b.destination;
          rest = b.rest;
          entered = b.entered;
          real = low;
          against = against_decided p.sort rs k (subst (λ (l : List (Rule A R)). Against addr rests p.sort l k) rules_here b.against);
        }

        list_broken : (k : Packet V W) → BreaksList addr rests rs p h.entered k → BreaksIn addr rests (with_rules t f rs) p h k
        list_broken k b = record {
          source = b.source;
          destination = b.destination;
          rest = b.rest;
          entered = b.entered;
          against = subst (λ (l : List (Rule A R)). Against addr rests p.sort l k) (sym rules_here) (decided_against_is p.sort rs k b.against);
        }

        breaks_here : (k : Packet V W) → BreaksList addr rests rs p h.entered k → BreaksFirst addr rests (with_rules t f rs) p f k
        breaks_here k b = record {
          hops = hs;
          place = j;
          hop = h;
          route = route;
          first = record {
            here = at.here;
            fit = (k, list_broken k b);
            before = λ i x lt there some.
                at.before i x lt there
                (breaks_there_only addr rests t f rs p kept x.firewall some.0 (record { hops = hs; place = i; hop = x; route = route; on = there; named = refl; breaks = some.1 }));
          };
          named = at.fit;
          breaks = list_broken k b;
        }

        keeps_here : ((k : Packet V W) → BreaksList addr rests rs p h.entered k → ⊥) → Broken addr rests (with_rules t f rs) p → ⊥
        keeps_here none (g, k, b) =
            let along = route_one t.shape ok p.from p.to b.hops hs b.route route in
            let on = subst (λ (l : List Hop). slice_get l b.place ≡ Some b.hop) along b.first.here in
            let same = firewall_one hs route.firewalls_once b.place j b.hop h on at.here (through g k b ∙ sym at.fit) in
            none k (broken_list k (subst (λ (x : Hop). BreaksIn addr rests (with_rules t f rs) p x k) same b.breaks))

        -- what is found in the list, entered by this hop, is found in the tree
        pub found_here : (r : Option (Packet V W)) → BreakFound addr rests rs p h.entered r → BreakAtFound addr rests t f rs p r
        found_here None none = keeps_here none
        found_here (Some k) breaks = breaks_here k breaks
