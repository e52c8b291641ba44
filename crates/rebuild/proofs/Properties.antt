-- The calls that declare the properties of a tree again.
use Rattle.std.proofs.Common.{◌≡◌, ℕ, List, [], ◌∷◌, ◌++◌, map, length, Some, sym, refl, ap, ◌∙◌, arith, append_assoc, length-append}
use Rattle.std.proofs.lemmas.List.{append-nil}
use Rattle.std.specs.List.{slice_get}
use Rattle.model.specs.Properties.{Kept, BreaksFirst, Guarded}
use Rattle.model.specs.Tree.{Tree, with_properties}
use Rattle.model.specs.declared.rules.Packet.{Packet}
use Rattle.model.specs.declared.rules.Property.{Property}
use Rattle.model.proofs.Meanings.{breaks_in_carry}
use Rattle.rebuild.specs.Again.{Accepted}
use Rattle.rebuild.specs.Listing.{property_call}
use Rattle.model.specs.declared.calls.Call.TheVariants.{Stand}
use Rattle.rebuild.proofs.Accepting.{accepted_stand}
use Rattle.rebuild.proofs.Behind.{nth_behind}
use Rattle.rebuild.proofs.Leads.{Leads}
use Rattle.rebuild.proofs.Regular.{RegularProperties}

module _ {A R V W : Type 0} (addr : A → V → Type 0) (rests : R → W → Type 0) (t : Tree A R) where
  -- what is kept is not broken where other properties stand
  not_broken : (ps : List (Property A R)) (p : Property A R) → Kept addr rests t p → (f : ℕ) (k : Packet V W) → BreaksFirst addr rests (with_properties t ps) p f k → ⊥
  not_broken ps p kept f k b =
      kept f k (record {
        hops = b.hops;
        place = b.place;
        hop = b.hop;
        route = b.route;
        on = b.first.here;
        named = b.named;
        breaks = breaks_in_carry addr rests t (with_properties t ps) p b.hop k refl b.breaks;
      })

  module _ (guard : Guarded addr rests t) (regular : RegularProperties addr rests t.addresses t.rests t.shape t.properties) where
    stand_accepted : (stood : List (Property A R)) (p : Property A R) (behind : List (Property A R)) → t.properties ≡ stood ++ (p ∷ behind) → Accepted {V = V} {W = W} addr rests (with_properties t stood) (Stand p)
    stand_accepted stood p behind e =
        let at : slice_get t.properties (length stood) ≡ Some p = ap (λ ps. slice_get ps (length stood)) e ∙ nth_behind stood p behind in
        let offered = regular.offered (length stood) p at in
        let room = regular.room in
        let (placed, kept) = guard (length stood) p at in
        accepted_stand addr rests (with_properties t stood) p offered.from offered.to (omega (arith, ap length e, length-append stood (p ∷ behind)))
        (record { source = offered.inside.source; destination = offered.inside.destination; rest = offered.inside.rest })
        (record { apart = placed.apart; joined = placed.joined; source = placed.source; destination = placed.destination })
        (not_broken (stood ++ (p ∷ [])) p kept)

    -- where the first properties stand, the calls for those behind declare the rest
    pub properties_lead : (stood behind : List (Property A R)) → t.properties ≡ stood ++ behind → Leads {V = V} {W = W} addr rests (with_properties t stood) (map property_call behind) t
    properties_lead stood [] e = ap (with_properties t) (sym (append-nil stood) ∙ sym e)
    properties_lead stood (p ∷ behind) e = (stand_accepted stood p behind e, properties_lead (stood ++ (p ∷ [])) behind (e ∙ sym (append_assoc stood (p ∷ []) behind)))
