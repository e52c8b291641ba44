-- What every tree of a lawful record has, besides what it grows by: room, lists that are complete, regions inside the wholes, and firewalls in order.
use Rattle.std.proofs.Common.{◌≡◌, ℕ, zero, suc, ◌+◌, ◌<◌, ◌≤◌, List, [], ◌∷◌, ◌++◌, length, set, Some, None, Option, unwrap_or, sym, refl, ap, ◌∙◌, subst, inl, inr, arith, length-set, MatchOption}
use native.Mathlib.Decide.{dec_le}
use Rattle.std.proofs.lemmas.List.{length_push}
use Rattle.std.proofs.lemmas.List.Edits.{length-insert, length-remove}
use Rattle.std.specs.List.{slice_get, insert, remove}
use Rattle.kinds.proofs.Bits.{ones_bits}
use Rattle.kinds.proofs.Provided.{none_some}
use Rattle.kinds.specs.Words.{Inside}
use Rattle.model.specs.Limits.{max_rules, max_list, max_blocks, max_properties, max_domains, max_interfaces}
use Rattle.model.specs.Packets.{Unmatched, InWhole, Complete}
use Rattle.model.specs.Record.{refused, unless, then_tree, tree_from, plain, LawfulFrom, Lawful}
use Rattle.model.specs.Refusals.{NoFirewall, FullOfDomains, FullOfRules, RuleInside, PropertyInside}
use Rattle.model.specs.Shape.{Shape, Domain}
use Rattle.model.specs.Tree.{Tree, Block, start, after, rules_of, count_rules, whole_rule, with_rules}
use Rattle.model.specs.declared.answers.Lent.{Lent}
use Rattle.model.specs.declared.answers.Recorded.{Recorded}
use Rattle.model.specs.declared.answers.Refusal.{Refusal}
use Rattle.model.specs.declared.answers.Refusal.TheVariants.{NoSuch, Full, Outside, Unmatched as IsUnmatched}
use Rattle.model.specs.declared.calls.Call.{Call}
use Rattle.model.specs.declared.calls.Call.TheVariants.{Attach, Branch, Give, Take, Place, Alter, Lift, Stand, Withdraw, Ask, Send}
use Rattle.model.specs.declared.rules.Decision.{Decision}
use Rattle.model.specs.declared.rules.Packet.{Packet}
use Rattle.model.specs.declared.rules.Property.{Property}
use Rattle.model.specs.declared.rules.Rule.{Rule}
use Rattle.model.proofs.Grown.{Grown, NoneApplies, grown_start, grown_then}
use Rattle.model.proofs.Subtrees.{nth_some}
use Rattle.search.proofs.Positions.{nth_set_same}
use Rattle.rebuild.proofs.Each.{Each, each_none, each_more, each_push, each_removed, each_set, each_inserted, each_uninserted}
use Rattle.rebuild.proofs.Order.{InOrder, in_order_old, in_order_next}

-- a firewall's list is where its number says
pub listed : {A R : Type 0} (t : Tree A R) (f : ℕ) → f < length t.lists → slice_get t.lists f ≡ Some (rules_of t f)
listed t f less = let (l, at) = nth_some t.lists f less in at ∙ sym (ap (λ o. Some (unwrap_or o [])) at)

-- how many rules there are once a list is another
pub count_set : {A R : Type 0} (ls : List (List (Rule A R))) (f : ℕ) (l new : List (Rule A R)) → slice_get ls f ≡ Some l → count_rules (set ls f new) + length l ≡ count_rules ls + length new
count_set [] f l new at = none_some at
count_set (k ∷ ls) zero l new at = let same : k ≡ l = cc in omega (arith, ap length same)
count_set (k ∷ ls) (suc f) l new at = omega (arith, count_set ls f l new at)

pub count_append : {A R : Type 0} (ls ms : List (List (Rule A R))) → count_rules (ls ++ ms) ≡ count_rules ls + count_rules ms
count_append [] ms = omega arith
count_append (l ∷ ls) ms = omega (arith, count_append ls ms)

-- a test on numbers that does not fail holds
le_since : (m n : ℕ) → ((m ≤ n → ⊥) → ⊥) → m ≤ n
le_since m n h = elim (dec_le m n) [ yes k ↦ k | no k ↦ absurd (h k) ]

module _ {A R V W : Type 0} (addr : A → V → Type 0) (rests : R → W → Type 0) where
  -- a list that edits leave, where a and r are the wholes
  pub record Fit (a : A) (r : R) (l : List (Rule A R)) : Type 0 where
    pub few : length l ≤ max_list
    pub complete : Complete addr rests (start a r) l
    pub inside : Each (RuleInside addr rests (start a r)) l

  -- the shape, the lists, the blocks and the properties of a tree whose wholes are a and r
  pub record RegularShape (s : Shape) : Type 0 where
    pub room : length s.domains < max_domains
    pub order : InOrder 0 s.domains (length s.firewalls)

  pub record RegularLists (a : A) (r : R) (ls : List (List (Rule A R))) : Type 0 where
    pub room : count_rules ls ≤ max_rules
    pub fit : Each (Fit a r) ls

  pub record RegularBlocks (a : A) (bs : List (Block A)) : Type 0 where
    pub room : length bs ≤ max_blocks
    pub inside : Each (λ (b : Block A). Inside (addr b.region) (addr a)) bs

  pub record Offered (a : A) (r : R) (s : Shape) (p : Property A R) : Type 0 where
    pub from : Domain s p.from
    pub to : Domain s p.to
    pub inside : PropertyInside addr rests (start a r) p

  pub record RegularProperties (a : A) (r : R) (s : Shape) (ps : List (Property A R)) : Type 0 where
    pub room : length ps ≤ max_properties
    pub offered : Each (Offered a r s) ps

  pub record Regular (t : Tree A R) : Type 0 where
    pub shape : RegularShape t.shape
    pub lists : RegularLists t.addresses t.rests t.lists
    pub blocks : RegularBlocks t.addresses t.blocks
    pub properties : RegularProperties t.addresses t.rests t.shape t.properties

  pub regular_start : (a : A) (r : R) → Regular (start a r)
  regular_start a r = record {
    shape = record { room = omega arith; order = refl };
    lists = record { room = omega arith; fit = each_none _ };
    blocks = record { room = omega arith; inside = each_none _ };
    properties = record { room = omega arith; offered = each_none _ };
  }

  -- the one rule that a firewall begins with
  fit_whole : (t : Tree A R) (w : Decision) → Fit t.addresses t.rests (whole_rule t w ∷ [])
  fit_whole t w = record {
    few = omega arith;
    complete = λ p whole none. none 0 (whole_rule t w) refl (record { interface = (ones_bits max_interfaces).1 p.interface whole.interface; source = whole.source; destination = whole.destination; rest = whole.rest });
    inside = each_more _ _ [] (record { source = λ v held. held; destination = λ v held. held; rest = λ v held. held }) (each_none _);
  }

  -- the domains of what was offered are there in a larger shape
  properties_grow : (a : A) (r : R) (s new : Shape) (ps : List (Property A R)) → length s.domains ≤ length new.domains → RegularProperties a r s ps → RegularProperties a r new ps
  properties_grow a r s new ps more old = record {
    room = old.room;
    offered = λ k p at. let o = old.offered k p at in let from = o.from in let to = o.to in record { from = omega arith; to = omega arith; inside = o.inside };
  }

  module _ (t : Tree A R) (f : ℕ) (l : List (Rule A R)) (is : f < length t.lists) where
    -- the list that firewall f has once it is l
    pub list_now : rules_of (with_rules t f l) f ≡ l
    list_now = ap (λ (o : Option (List (Rule A R))). unwrap_or o []) (nth_set_same t.lists f l is)

    -- it is complete where no packet of the whole is left unmatched
    complete_since : ((k : Packet V W) → InWhole addr rests t k × Unmatched addr rests (rules_of (with_rules t f l) f) k → ⊥) → Complete addr rests (start t.addresses t.rests) l
    complete_since none k whole unmatched =
        none k (
          record { interface = whole.interface; source = whole.source; destination = whole.destination; rest = whole.rest },
          subst (λ (rs : List (Rule A R)). Unmatched addr rests rs k) (sym list_now) unmatched,
        )

    lists_set : RegularLists t.addresses t.rests t.lists → Fit t.addresses t.rests l → count_rules t.lists + length l ≤ max_rules + length (rules_of t f) → RegularLists t.addresses t.rests (set t.lists f l)
    lists_set old fit room = record { room = omega (arith, count_set t.lists f (rules_of t f) l (listed t f is)); fit = each_set _ t.lists f l old.fit fit }

  fit_old : (t : Tree A R) (f : ℕ) → f < length t.lists → RegularLists t.addresses t.rests t.lists → Fit t.addresses t.rests (rules_of t f)
  fit_old t f is old = old.fit f (rules_of t f) (listed t f is)

  module _ (tell-addr : (x : A) (v : V) → Dec (addr x v)) (tell-rests : (x : R) (w : W) → Dec (rests x w)) where
    -- a region that is not outside another is inside it
    inside_since : {X Y : Type 0} (holds : X → Y → Type 0) → ((x : X) (y : Y) → Dec (holds x y)) → (x z : X) → ((Inside (holds x) (holds z) → ⊥) → ⊥) → Inside (holds x) (holds z)
    inside_since holds tell x z not y held = elim (tell z y) [ yes h ↦ h | no n ↦ absurd (not (λ inside. n (inside y held))) ]

    rule_since : (t : Tree A R) (r : Rule A R) → ((RuleInside addr rests t r → ⊥) → ⊥) → RuleInside addr rests (start t.addresses t.rests) r
    rule_since t r not = record {
      source = inside_since addr tell-addr r.source t.addresses (λ n. not (λ h. n h.source));
      destination = inside_since addr tell-addr r.destination t.addresses (λ n. not (λ h. n h.destination));
      rest = inside_since rests tell-rests r.rest t.rests (λ n. not (λ h. n h.rest));
    }

    property_since : (t : Tree A R) (p : Property A R) → ((PropertyInside addr rests t p → ⊥) → ⊥) → PropertyInside addr rests (start t.addresses t.rests) p
    property_since t p not = record {
      source = inside_since addr tell-addr p.source t.addresses (λ n. not (λ h. n h.source));
      destination = inside_since addr tell-addr p.destination t.addresses (λ n. not (λ h. n h.destination));
      rest = inside_since rests tell-rests p.rest t.rests (λ n. not (λ h. n h.rest));
    }

    module _ (t : Tree A R) (f p : ℕ) (is : f < length t.lists) (old : RegularLists t.addresses t.rests t.lists) (l : Lent) where
      lists_placed : (r : Rule A R) → NoneApplies addr rests t (Place f p r) l → RegularLists t.addresses t.rests (set t.lists f (insert (rules_of t f) p r))
      lists_placed r none =
          let rs = rules_of t f in
          let fit = fit_old t f is old in
          let within : length rs < p → ⊥ = λ h. none NoSuch (inr h) in
          let few : max_list < length rs + 1 → ⊥ = λ h. none Full (inl h) in
          let room : FullOfRules t → ⊥ = λ h. none Full (inr h) in
          let more : length (insert rs p r) ≡ length rs + 1 = length-insert rs p r (omega arith) in
          let new : Fit t.addresses t.rests (insert rs p r) = record {
            few = omega arith;
            complete = λ k whole unmatched. fit.complete k whole (each_uninserted _ rs p r unmatched);
            inside = each_inserted _ rs p r fit.inside (rule_since t r (none Outside));
          } in
          lists_set t f (insert rs p r) is old new (omega arith)

      lists_altered : (r : Rule A R) → NoneApplies addr rests t (Alter f p r) l → RegularLists t.addresses t.rests (set t.lists f (set (rules_of t f) p r))
      lists_altered r none =
          let rs = rules_of t f in
          let fit = fit_old t f is old in
          let few = fit.few in
          let room = old.room in
          let same : length (set rs p r) ≡ length rs = length-set rs p r in
          let new : Fit t.addresses t.rests (set rs p r) = record {
            few = omega arith;
            complete = complete_since t f (set rs p r) is (λ k. none (IsUnmatched k));
            inside = each_set _ rs p r fit.inside (rule_since t r (none Outside));
          } in
          lists_set t f (set rs p r) is old new (omega arith)

      lists_lifted : NoneApplies addr rests t (Lift f p) l → RegularLists t.addresses t.rests (set t.lists f (remove (rules_of t f) p))
      lists_lifted none =
          let rs = rules_of t f in
          let fit = fit_old t f is old in
          let few = fit.few in
          let room = old.room in
          let within : length rs ≤ p → ⊥ = λ h. none NoSuch (inr h) in
          let less : length (remove rs p) + 1 ≡ length rs = length-remove rs p (omega arith) in
          let new : Fit t.addresses t.rests (remove rs p) = record {
            few = omega arith;
            complete = complete_since t f (remove rs p) is (λ k. none (IsUnmatched k));
            inside = each_removed _ rs p fit.inside;
          } in
          lists_set t f (remove rs p) is old new (omega arith)

    has_list : (t : Tree A R) (f : ℕ) → Grown addr rests t → (NoFirewall t f → ⊥) → f < length t.lists
    has_list t f g is = rw g.lists (le_since (suc f) _ is)

    -- a call to which no refusal applies keeps it so
    regular_after : (t : Tree A R) (c : Call A R V W) (l : Lent) → Grown addr rests t → Regular t → NoneApplies addr rests t c l → Regular (after t c)
    regular_after t (Attach d i j w) l g old none =
        let few : FullOfDomains t → ⊥ = λ h. none Full (inl h) in
        let room : FullOfRules t → ⊥ = λ h. none Full (inr h) in
        let firewalls = length_push t.shape.firewalls (record { node = d; interface = i }) in
        let domains = length_push t.shape.domains (record { node = length t.shape.firewalls; interface = j }) in
        record {
          shape = record { room = omega arith; order = in_order_next 0 _ _ t.shape.domains _ refl (omega arith) old.shape.order };
          lists = record { room = omega (arith, count_append t.lists ((whole_rule t w ∷ []) ∷ [])); fit = each_push _ t.lists _ old.lists.fit (fit_whole t w) };
          blocks = old.blocks;
          properties = properties_grow _ _ t.shape _ _ (omega arith) old.properties;
        }
    regular_after t (Branch f i) l g old none =
        let few : FullOfDomains t → ⊥ = none Full in
        let domains = length_push t.shape.domains (record { node = f; interface = i }) in
        record {
          shape = record { room = omega arith; order = in_order_old 0 _ t.shape.domains _ (le_since (suc f) _ (none NoSuch)) old.shape.order };
          lists = old.lists;
          blocks = old.blocks;
          properties = properties_grow _ _ t.shape _ _ (omega arith) old.properties;
        }
    regular_after t (Give d x) l g old none =
        let few : max_blocks < length t.blocks + 1 → ⊥ = none Full in
        record {
          shape = old.shape;
          lists = old.lists;
          blocks = record {
            room = omega (arith, length_push t.blocks (record { region = x; domain = d }));
            inside = each_push _ t.blocks _ old.blocks.inside (inside_since addr tell-addr x t.addresses (none Outside));
          };
          properties = old.properties;
        }
    regular_after t (Take b) l g old none =
        let is : length t.blocks ≤ b → ⊥ = none NoSuch in
        let few = old.blocks.room in
        record {
          shape = old.shape;
          lists = old.lists;
          blocks = record { room = omega (arith, length-remove t.blocks b (omega arith)); inside = each_removed _ t.blocks b old.blocks.inside };
          properties = old.properties;
        }
    regular_after t (Place f p r) l g old none = record {
      shape = old.shape;
      lists = lists_placed t f p (has_list t f g (λ h. none NoSuch (inl h))) old.lists l r none;
      blocks = old.blocks;
      properties = old.properties;
    }
    regular_after t (Alter f p r) l g old none = record {
      shape = old.shape;
      lists = lists_altered t f p (has_list t f g (λ h. none NoSuch (inl h))) old.lists l r none;
      blocks = old.blocks;
      properties = old.properties;
    }
    regular_after t (Lift f p) l g old none = record {
      shape = old.shape;
      lists = lists_lifted t f p (has_list t f g (λ h. none NoSuch (inl h))) old.lists l none;
      blocks = old.blocks;
      properties = old.properties;
    }
    regular_after t (Stand p) l g old none =
        let few : max_properties < length t.properties + 1 → ⊥ = none Full in
        record {
          shape = old.shape;
          lists = old.lists;
          blocks = old.blocks;
          properties = record {
            room = omega (arith, length_push t.properties p);
            offered = each_push _ t.properties p old.properties.offered (record {
              from = le_since _ _ (λ h. none NoSuch (inl h));
              to = le_since _ _ (λ h. none NoSuch (inr h));
              inside = property_since t p (none Outside);
            });
          };
        }
    regular_after t (Withdraw n) l g old none =
        let is : length t.properties ≤ n → ⊥ = none NoSuch in
        let few = old.properties.room in
        record {
          shape = old.shape;
          lists = old.lists;
          blocks = old.blocks;
          properties = record { room = omega (arith, length-remove t.properties n (omega arith)); offered = each_removed _ t.properties n old.properties.offered };
        }
    regular_after t (Ask p) l g old none = old
    regular_after t (Send h) l g old none = old

    regular_unless : (t : Tree A R) (c : Call A R V W) (l : Lent) (S : Type 0) (Q : Refusal V W → Type 0) (o : Option (Refusal V W)) → Grown addr rests t → Regular t
        → MatchOption o (NoneApplies addr rests t c l × S) Q → Regular (unless o t (after t c))
    regular_unless t c l S Q None g old right = regular_after t c l g old right.0
    regular_unless t c l S Q (Some r) g old right = old

    regular_from : (t : Tree A R) (es : List (Recorded A R V W)) → Grown addr rests t → Regular t → LawfulFrom addr rests t es → Regular (tree_from t es)
    regular_from t [] g old law = old
    regular_from t (e ∷ es) g old law =
        regular_from (then_tree t e) es (grown_then addr rests t e g law.1) (regular_unless t e.call e.lent _ _ (refused e.answer) g old law.1) law.2

    pub regular_plain : (a : A) (r : R) (es : List (Recorded A R V W)) → Lawful addr rests a r es → Regular (plain a r es)
    regular_plain a r es law = regular_from (start a r) es (grown_start addr rests a r) (regular_start a r) law
