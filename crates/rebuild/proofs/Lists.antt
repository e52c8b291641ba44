-- The calls that make the lists of a tree again.
use Rattle.std.proofs.Common.{◌≡◌, ℕ, zero, suc, ◌+◌, ◌<◌, ◌≤◌, List, [], ◌∷◌, ◌++◌, length, set, Option, unwrap_or, sym, refl, ap, ◌∙◌, subst, arith, append_assoc, length-append}
use Rattle.std.proofs.lemmas.List.{length_push}
use Rattle.std.specs.List.{slice_get, insert}
use Rattle.model.specs.Limits.{max_rules}
use Rattle.model.specs.Packets.{Complete}
use Rattle.model.specs.Refusals.{RuleInside}
use Rattle.model.specs.Shape.{Firewall}
use Rattle.model.specs.Tree.{Tree, rules_of, count_rules, with_lists, after}
use Rattle.model.specs.declared.calls.Call.TheVariants.{Place, Alter}
use Rattle.model.specs.declared.path.Uplink.{Uplink}
use Rattle.model.specs.declared.rules.Rule.{Rule}
use Rattle.rebuild.specs.Again.{Accepted}
use Rattle.rebuild.specs.Listing.{rule_calls, list_calls}
use Rattle.rebuild.proofs.Accepting.{accepted_place, accepted_alter}
use Rattle.rebuild.proofs.Behind.{nth_behind, set_behind, insert_behind}
use Rattle.rebuild.proofs.Domains.{seeds, seeds_count}
use Rattle.rebuild.proofs.Each.{Each}
use Rattle.rebuild.proofs.Leads.{Leads, leads_on}
use Rattle.rebuild.proofs.Regular.{Fit, count_append}

-- lists that each have a rule have as many rules as lists at least
rule_each : {A R : Type 0} (ls : List (List (Rule A R))) → Each (λ (l : List (Rule A R)). 0 < length l) ls → length ls ≤ count_rules ls
rule_each [] some = omega arith
rule_each (l ∷ ls) some = let here = some zero l refl in omega (arith, rule_each ls (λ k. some (suc k)))

module _ {A R V W : Type 0} (addr : A → V → Type 0) (rests : R → W → Type 0) (t : Tree A R) (none : t.properties ≡ []) (w : Rule A R) where
  -- a list that is not made yet: some rules, before w
  abbrev unfinished : List (Rule A R) → List (Rule A R)
  unfinished front = front ++ (w ∷ [])

  module _ (f : ℕ) (is : Firewall t.shape f) (done left : List (List (Rule A R))) (at : length done ≡ f) where
    -- the tree in which firewall f has the list x
    abbrev having : List (Rule A R) → Tree A R
    having x = with_lists t (done ++ (x ∷ left))

    having_list : (x : List (Rule A R)) → rules_of (having x) f ≡ x
    having_list x = ap (λ (o : Option (List (Rule A R))). unwrap_or o []) (ap (slice_get (done ++ (x ∷ left))) (sym at) ∙ nth_behind done x left)

    edit_makes : (x y : List (Rule A R)) (edit : List (Rule A R) → List (Rule A R)) → edit x ≡ y → with_lists t (set (done ++ (x ∷ left)) f (edit (rules_of (having x) f))) ≡ having y
    edit_makes x y edit e =
        let now : edit (rules_of (having x) f) ≡ y = ap edit (having_list x) ∙ e in
        ap (with_lists t) (ap (set (done ++ (x ∷ left)) f) now ∙ ap (λ k. set (done ++ (x ∷ left)) k y) (sym at) ∙ set_behind done x y left)

    module _ (l : List (Rule A R)) (fit : Fit addr rests t.addresses t.rests l) (room : count_rules (done ++ (l ∷ left)) ≤ max_rules) where
      inside_now : (x : List (Rule A R)) (front : List (Rule A R)) (r : Rule A R) (behind : List (Rule A R)) → l ≡ front ++ (r ∷ behind) → RuleInside addr rests (having x) r
      inside_now x front r behind e =
          let inside = fit.inside (length front) r (ap (λ rs. slice_get rs (length front)) e ∙ nth_behind front r behind) in
          record { source = inside.source; destination = inside.destination; rest = inside.rest }

      complete_now : (x : List (Rule A R)) → Complete addr rests (having x) l
      complete_now x k whole = fit.complete k (record { interface = whole.interface; source = whole.source; destination = whole.destination; rest = whole.rest })

      module _ (p : ℕ) (front : List (Rule A R)) (r : Rule A R) (count : length front ≡ p) where
        length_now : length (rules_of (having (unfinished front)) f) ≡ p + 1
        length_now = omega (arith, ap length (having_list (unfinished front)), length_push front w)

        -- the last rule in the place of w
        alter_makes : l ≡ front ++ (r ∷ []) → after {V = V} {W = W} (having (unfinished front)) (Alter f p r) ≡ having l
        alter_makes e = edit_makes (unfinished front) l (λ rs. set rs p r) (ap (λ k. set (unfinished front) k r) (sym count) ∙ set_behind front w r [] ∙ sym e)

        alter_accepted : l ≡ front ++ (r ∷ []) → Accepted {V = V} {W = W} addr rests (having (unfinished front)) (Alter f p r)
        alter_accepted e =
            let x = unfinished front in
            let now : rules_of (after {V = V} {W = W} (having x) (Alter f p r)) f ≡ l = ap (λ n. rules_of n f) (alter_makes e) ∙ having_list l in
            accepted_alter addr rests (having x) none f p r is (inside_now x front r [] e) (omega (arith, length_now)) (subst (Complete addr rests (having x)) (sym now) (complete_now x))

        -- any other before w
        place_makes : after {V = V} {W = W} (having (unfinished front)) (Place f p r) ≡ having (unfinished (front ++ (r ∷ [])))
        place_makes =
            edit_makes (unfinished front) (unfinished (front ++ (r ∷ []))) (λ rs. insert rs p r)
            (ap (λ k. insert (unfinished front) k r) (sym count) ∙ insert_behind front r (w ∷ []) ∙ sym (append_assoc front (r ∷ []) (w ∷ [])))

        place_accepted : (q : Rule A R) (behind : List (Rule A R)) → l ≡ front ++ (r ∷ (q ∷ behind)) → Accepted {V = V} {W = W} addr rests (having (unfinished front)) (Place f p r)
        place_accepted q behind e =
            let x = unfinished front in
            let few = fit.few in
            let long : length l ≡ p + suc (suc (length behind)) = omega (arith, ap length e, length-append front (r ∷ (q ∷ behind))) in
            let short : length x ≡ p + 1 = omega (arith, length_push front w) in
            accepted_place addr rests (having x) none f p r is (inside_now x front r (q ∷ behind) e) (omega (arith, length_now)) (omega (arith, length_now))
            (omega (arith, count_append done (x ∷ left), count_append done (l ∷ left)))

      -- where the first rules are there, before w, the calls for those behind make the list
      rules_lead : (p : ℕ) (front : List (Rule A R)) (r : Rule A R) (behind : List (Rule A R)) → length front ≡ p → l ≡ front ++ (r ∷ behind)
          → Leads {V = V} {W = W} addr rests (having (unfinished front)) (rule_calls f p (r ∷ behind)) (having l)
      rules_lead p front r [] count e = (alter_accepted p front r count e, alter_makes p front r count e)
      rules_lead p front r (q ∷ behind) count e = (
        place_accepted p front r count q behind e,
        subst (λ n. Leads {V = V} {W = W} addr rests n (rule_calls f (suc p) (q ∷ behind)) (having l)) (sym (place_makes p front r count))
            (rules_lead (suc p) (front ++ (r ∷ [])) q behind (omega (arith, length_push front r)) (e ∙ sym (append_assoc front (r ∷ []) (q ∷ behind)))),
      )

  module _ (all : List (List (Rule A R))) (each-hangs : length all ≡ length t.shape.firewalls) (room : count_rules all ≤ max_rules) where
    -- where the first lists are made, and the others begun, the calls for the others make them
    pub lists_lead : (f : ℕ) (done : List (List (Rule A R))) (hs : List Uplink) (ls : List (List (Rule A R))) → length done ≡ f → length hs ≡ length ls → all ≡ done ++ ls
        → Each (Fit addr rests t.addresses t.rests) ls → Each (λ (l : List (Rule A R)). 0 < length l) ls → Leads {V = V} {W = W} addr rests (with_lists t (done ++ seeds w hs)) (list_calls f ls) (with_lists t all)
    lists_lead f done [] [] at count e fit some = ap (with_lists t) (sym e)
    lists_lead f done [] (l ∷ ls) at count e fit some = absurd (omega arith)
    lists_lead f done (h ∷ hs) [] at count e fit some = absurd (omega arith)
    lists_lead f done (h ∷ hs) ([] ∷ ls) at count e fit some = let none = some zero [] refl in absurd (omega arith)
    lists_lead f done (h ∷ hs) ((r ∷ behind) ∷ ls) at count e fit some =
        let l = r ∷ behind in
        let is : f < length t.shape.firewalls = omega (arith, ap length e, length-append done (l ∷ ls)) in
        let enough = rule_each ls (λ k. some (suc k)) in
        let few : count_rules (done ++ (l ∷ seeds w hs)) ≤ max_rules = omega (arith, ap count_rules e, count_append done (l ∷ ls), count_append done (l ∷ seeds w hs), seeds_count w hs) in
        leads_on addr rests (with_lists t (done ++ ((w ∷ []) ∷ seeds w hs))) (rule_calls f 0 l) (list_calls (suc f) ls) (with_lists t (done ++ (l ∷ seeds w hs))) (with_lists t all)
        (rules_lead f is done (seeds w hs) at l (fit zero l refl) few 0 [] r behind refl refl)
        (subst (λ xs. Leads {V = V} {W = W} addr rests (with_lists t xs) (list_calls (suc f) ls) (with_lists t all)) (append_assoc done (l ∷ []) (seeds w hs))
        (lists_lead (suc f) (done ++ (l ∷ [])) hs ls (omega (arith, length_push done l)) (omega arith) (e ∙ sym (append_assoc done (l ∷ []) ls)) (λ k. fit (suc k)) (λ k. some (suc k))))
