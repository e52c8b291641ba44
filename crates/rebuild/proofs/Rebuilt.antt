-- Every tree of a lawful record is built again by its listing.
use Rattle.std.proofs.Common.{◌≡◌, ℕ, ◌<◌, ◌≤◌, List, [], ◌∷◌, map, length, Some, sym, refl, subst, arith}
use Rattle.std.specs.List.{slice_get}
use Rattle.kinds.proofs.Provided.{none_some}
use Rattle.kinds.specs.Words.{Inhabited}
use Rattle.model.specs.Limits.{max_rules}
use Rattle.model.specs.Properties.{Guarded}
use Rattle.model.specs.Record.{plain}
use Rattle.model.specs.Tree.{Tree, start, whole_rule, with_blocks, with_lists}
use Rattle.model.specs.declared.rules.Decision.TheVariants.{Discard}
use Rattle.model.specs.declared.rules.Rule.{Rule}
use Rattle.model.proofs.Grown.{Grown, grown_plain}
use Rattle.model.proofs.Meanings.{guarded_last}
use Rattle.rebuild.specs.Again.{Rebuilds, ListingsRebuild}
use Rattle.rebuild.specs.Listing.{listing, domain_calls, block_call, list_calls}
use Rattle.rebuild.proofs.Blocks.{blocks_lead}
use Rattle.rebuild.proofs.Domains.{begun, domains_built}
use Rattle.rebuild.proofs.Leads.{Leads, leads_on, leads_built, leads_accepted}
use Rattle.rebuild.proofs.Lists.{lists_lead}
use Rattle.rebuild.proofs.Modest.{listing_modest, listing_few}
use Rattle.rebuild.proofs.Order.{in_order_few}
use Rattle.rebuild.proofs.Properties.{properties_lead}
use Rattle.rebuild.proofs.Regular.{Fit, Regular, regular_plain}

module _ {A R V W : Type 0} (addr : A → V → Type 0) (rests : R → W → Type 0) where
  rebuilds : (t : Tree A R) → Grown addr rests t → Regular addr rests t → Leads {V = V} {W = W} addr rests (start t.addresses t.rests) (listing t) t → Rebuilds addr rests t
  rebuilds t grown regular leads = record {
    accepted = λ before c behind e. leads_accepted addr rests (start t.addresses t.rests) before c behind t (subst (λ cs. Leads addr rests (start t.addresses t.rests) cs t) e leads);
    again = leads_built addr rests (start t.addresses t.rests) (listing t) t leads;
    modest = listing_modest addr rests t grown regular;
    few = listing_few addr rests t grown regular;
  }

  module _ (some-addr : (x : A) → Inhabited (addr x)) (some-rests : (x : R) → Inhabited (rests x)) where
    -- a complete list has a rule, since there is a packet of the whole
    fit_some : (a : A) (r : R) (l : List (Rule A R)) → Fit addr rests a r l → 0 < length l
    fit_some a r [] fit =
        let (v, in-a) = some-addr a in
        let (w, in-r) = some-rests r in
        absurd (fit.complete (record { interface = 0; source = v; destination = v; rest = w }) (record { interface = omega arith; source = in-a; destination = in-a; rest = in-r }) (λ k q at fits. none_some at))
    fit_some a r (q ∷ l) fit = omega arith

    tree_leads : (t : Tree A R) → Grown addr rests t → Regular addr rests t → Guarded addr rests t → Leads {V = V} {W = W} addr rests (start t.addresses t.rests) (listing t) t
    tree_leads t grown regular guard =
        let made = begun t t.shape.firewalls t.shape.domains in
        let given = with_blocks made t.blocks in
        let ruled = with_lists given t.lists in
        let few : length t.shape.firewalls ≤ max_rules = let room = regular.shape.room in omega (arith, in_order_few 0 _ t.shape.domains regular.shape.order) in
        let domains = domains_built addr rests t grown.sound regular.shape.room few regular.shape.order in
        let blocks = blocks_lead addr rests made refl t.blocks regular.blocks.room regular.blocks.inside grown.owned grown.apart [] t.blocks refl in
        let some = λ (k : ℕ) (l : List (Rule A R)) (at : slice_get t.lists k ≡ Some l). fit_some t.addresses t.rests l (regular.lists.fit k l at) in
        let lists = lists_lead addr rests given refl (whole_rule t Discard) t.lists grown.lists regular.lists.room 0 [] t.shape.firewalls t.lists refl (sym grown.lists) refl regular.lists.fit some in
        let properties = properties_lead addr rests t guard regular.properties [] t.properties refl in
        leads_on addr rests (start t.addresses t.rests) (domain_calls t.shape [] t.shape.domains) _ made t domains
        (leads_on addr rests made (map block_call t.blocks) _ given t blocks (leads_on addr rests given (list_calls 0 t.lists) _ ruled t lists properties))

    pub listings_rebuild : ((x : A) (v : V) → Dec (addr x v)) → ((x : R) (w : W) → Dec (rests x w)) → ListingsRebuild addr rests
    listings_rebuild tell-addr tell-rests a r es law =
        let grown = grown_plain addr rests a r es law in
        let regular = regular_plain addr rests tell-addr tell-rests a r es law in
        rebuilds (plain a r es) grown regular (tree_leads (plain a r es) grown regular (guarded_last addr rests (start a r) es law))
