-- The calls of the lists of rules, line by line.
use Rattle.std.proofs.Common.{◌≡◌, ℕ, zero, suc, ◌+◌, ◌<◌, ◌≤◌, List, [], ◌∷◌, map, length, take, drop, Some, None, Option, sym, refl, ap, ◌∙◌, arith, length-append, length-drop}
use Rattle.std.proofs.lemmas.List.Sums.{sum_by-cons}
use Rattle.std.specs.List.{slice_get}
use Rattle.std.specs.Option.{option_map}
use Rattle.lists.specs.Layout.{list_at, Laid}
use Rattle.lists.specs.Lengths.{length_at, start_of}
use Rattle.lists.proofs.Laid.{laid_count, laid_length}
use Rattle.model.specs.Tree.{count_rules}
use Rattle.model.specs.declared.calls.Call.{Call}
use Rattle.model.specs.declared.calls.Call.TheVariants.{Alter, Place}
use Rattle.model.specs.declared.rules.Rule.{Rule}
use Rattle.rebuild.specs.Listing.{rule_call, rule_calls, list_calls}
use Rattle.listing.proofs.JoinedLines.{nth_front, nth_back}

module _ {A R : Type 0} (V W : Type 0) where
  abbrev rules : ℕ → ℕ → List (Rule A R) → List (Call A R V W)
  rules f q rs = rule_calls f q rs

  abbrev call : ℕ → ℕ → Rule A R → List (Rule A R) → Call A R V W
  call f p r behind = rule_call f p r behind

  abbrev lists : ℕ → List (List (Rule A R)) → List (Call A R V W)
  lists f ls = list_calls f ls

  pub nth_rule_call : (f q : ℕ) (rs : List (Rule A R)) (p : ℕ) → slice_get (rules f q rs) p ≡ option_map (λ r. rule_call f (q + p) r (drop (suc p) rs)) (slice_get rs p)
  nth_rule_call f q [] p = refl
  nth_rule_call f q (r ∷ rs) zero = let same : q ≡ q + 0 = omega arith in ap (λ n. option_map (λ x. rule_call f n x rs) (slice_get (r ∷ rs) 0)) same
  nth_rule_call f q (r ∷ rs) (suc p) =
      let same : suc q + p ≡ q + suc p = omega arith in
      nth_rule_call f (suc q) rs p ∙ ap (λ n. option_map (λ x. rule_call f n x (drop (suc p) rs)) (slice_get rs p)) same

  -- the rule with these behind it
  altered : (f p : ℕ) (r : Rule A R) (behind : List (Rule A R)) → length behind ≡ 0 → call f p r behind ≡ Alter f p r
  altered f p r [] none = refl
  altered f p r (q ∷ behind) none = absurd (omega arith)

  placed : (f p : ℕ) (r : Rule A R) (behind : List (Rule A R)) → 0 < length behind → call f p r behind ≡ Place f p r
  placed f p r [] some = absurd (omega arith)
  placed f p r (q ∷ behind) some = refl

  -- the line of the rule at position p
  module _ (f : ℕ) (rs : List (Rule A R)) (p : ℕ) where
    line : (o : Option (Rule A R)) → o ≡ slice_get rs p → option_map (λ r. call f p r (drop (suc p) rs)) o ≡ slice_get (rules f 0 rs) p
    line o is =
        let same : p ≡ 0 + p = omega arith in
        ap (option_map (λ r. call f p r (drop (suc p) rs))) is ∙ ap (λ n. option_map (λ r. call f n r (drop (suc p) rs)) (slice_get rs p)) same ∙ sym (nth_rule_call f 0 rs p)

    pub no_line : None ≡ slice_get rs p → None ≡ slice_get (rules f 0 rs) p
    no_line none = line None none

    pub last_line : (r : Rule A R) → Some r ≡ slice_get rs p → length rs ≤ suc p → Some (Alter f p r) ≡ slice_get (rules f 0 rs) p
    last_line r here last = ap Some (sym (altered f p r (drop (suc p) rs) (omega (arith, length-drop (suc p) rs)))) ∙ line (Some r) here

    pub inner_line : (r : Rule A R) → Some r ≡ slice_get rs p → suc p < length rs → Some (Place f p r) ≡ slice_get (rules f 0 rs) p
    inner_line r here inner = ap Some (sym (placed f p r (drop (suc p) rs) (omega (arith, length-drop (suc p) rs)))) ∙ line (Some r) here

  length_rule_calls : (f q : ℕ) (rs : List (Rule A R)) → length (rules f q rs) ≡ length rs
  length_rule_calls f q [] = refl
  length_rule_calls f q (r ∷ rs) = ap suc (length_rule_calls f (suc q) rs)

  pub length_list_calls : (f : ℕ) (ls : List (List (Rule A R))) → length (lists f ls) ≡ count_rules ls
  length_list_calls f [] = refl
  length_list_calls f (l ∷ ls) = omega (arith, length-append (rules f 0 l) (lists (suc f) ls), length_rule_calls f 0 l, length_list_calls (suc f) ls)

  -- the rule at position p of the list of firewall k comes after those of the lists before
  pub nth_list_call : (f : ℕ) (ls : List (List (Rule A R))) (k p n : ℕ) → k < length ls → p < length (list_at ls k) → start_of (map length ls) k + p ≡ n → slice_get (lists f ls) n ≡ slice_get (rules (f + k) 0 (list_at ls k)) p
  nth_list_call f [] k p n there less at = absurd (omega arith)
  nth_list_call f (l ∷ ls) zero p n there less at =
      let same : n ≡ p = omega arith in
      let firewall : f ≡ f + 0 = omega arith in
      ap (slice_get (lists f (l ∷ ls))) same
      ∙ nth_front (rules f 0 l) (lists (suc f) ls) p (omega (arith, length_rule_calls f 0 l))
      ∙ ap (λ g. slice_get (rules g 0 l) p) firewall
  nth_list_call f (l ∷ ls) (suc k) p n there less at =
      let behind : n ≡ length (rules f 0 l) + (start_of (map length ls) k + p) = omega (arith, length_rule_calls f 0 l, sum_by-cons (λ m. m) (length l) (take k (map length ls))) in
      let firewall : suc f + k ≡ f + suc k = omega arith in
      nth_back (rules f 0 l) (lists (suc f) ls) n (start_of (map length ls) k + p) behind
      ∙ nth_list_call (suc f) ls k p (start_of (map length ls) k + p) (omega arith) less refl
      ∙ ap (λ g. slice_get (rules g 0 (list_at ls k)) p) firewall

  -- by the lengths of lists that lie in a table
  pub laid_line : {Y : Type 0} {row : Rule A R → Y} {lens : List ℕ} {table : List Y} {ls : List (List (Rule A R))} → Laid row lens table ls → (f p n : ℕ) → f < length lens → p < length_at lens f → start_of lens f + p ≡ n → slice_get (rules f 0 (list_at ls f)) p ≡ slice_get (lists 0 ls) n
  laid_line {ls = ls} laid f p n there less at =
      let firewall : f ≡ 0 + f = omega arith in
      ap (λ k. slice_get (rules k 0 (list_at ls f)) p) firewall
      ∙ sym (nth_list_call 0 ls f p n (omega (arith, laid_count laid)) (omega (arith, laid_length laid f)) (ap (λ ns. start_of ns f + p) (sym laid.lengths) ∙ at))
