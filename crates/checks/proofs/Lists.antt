-- A table's rows of rules say what the rules say.
use Rattle.std.proofs.Common.{◌≡◌, ℕ, List, map, Some, None, Option, sym, refl, ap, ◌∙◌, subst, arith, MatchOption}
use mathlib.Core.HLevel.{×_prop}
use native.Mathlib.Bridge.{le_prop}
use Rattle.kinds.specs.Pair.{both, pair_holds}
use Rattle.kinds.specs.Set.{set_holds, set_of}
use Rattle.kinds.specs.declared.pair.Pair.{Pair}
use Rattle.kinds.specs.declared.set.Set.{Set}
use Rattle.kinds.specs.declared.set.SetRow.{SetRow}
use Rattle.kinds.specs.Makes.{provided_yes}
use Rattle.search.specs.List.{row_holds, Says}
use Rattle.search.specs.declared.list.Entry.{Entry}
use Rattle.search.proofs.Walks.{matched}
use Rattle.model.specs.Packets.{Matches, Decided, Unmatched, decision_number, value_of}
use Rattle.model.specs.declared.rules.Decision.{Decision}
use Rattle.model.specs.declared.rules.Decision.TheVariants.{Accept, Discard}
use Rattle.model.specs.declared.rules.Packet.{Packet}
use Rattle.model.specs.declared.rules.Rule.{Rule}
use Rattle.checks.specs.Rows.{rule_row, rule_entry}
use Rattle.search.proofs.Mapped.{first_map, first_unmap, nowhere_map, nowhere_unmap}

pub number_one : (w x : Decision) → decision_number w ≡ decision_number x → w ≡ x
number_one Accept Accept e = refl
number_one Accept Discard e = absurd (omega arith)
number_one Discard Accept e = absurd (omega arith)
number_one Discard Discard e = refl

set_reads : (x : Set) → set_of x.mask ≡ Some x
set_reads x = provided_yes _ _ (×_prop le_prop le_prop) (x.some, x.few)

module _ {A R V W X Y : Type 0} (addr : A → V → Type 0) (rests : R → W → Type 0) (pa : A → X) (pr : R → Y) (ra : X → Option A) (rr : Y → Option R)
    (reads-a : (x : A) → ra (pa x) ≡ Some x) (reads-r : (x : R) → rr (pr x) ≡ Some x) where
  -- what a region of packets holds, and the region of a row
  abbrev pub Holds : Pair Set (Pair A (Pair A R)) → Pair ℕ (Pair V (Pair V W)) → Type 0
  Holds = pair_holds set_holds (pair_holds addr (pair_holds addr rests))

  abbrev pub region : Pair SetRow (Pair X (Pair X Y)) → Option (Pair Set (Pair A (Pair A R)))
  region w = both (set_of w.left.mask) (both (ra w.right.left) (both (ra w.right.right.left) (rr w.right.right.right)))

  abbrev pile : Rule A R → Pair Set (Pair A (Pair A R))
  pile r = record { left = r.interfaces; right = record { left = r.source; right = record { left = r.destination; right = r.rest } } }

  reads_rule : (r : Rule A R) → region (rule_row pa pr r) ≡ Some (pile r)
  reads_rule r = rw (set_reads r.interfaces, reads-a r.source, reads-a r.destination, reads-r r.rest)

  abbrev pub Rows : Pair SetRow (Pair X (Pair X Y)) → Pair ℕ (Pair V (Pair V W)) → Type 0
  Rows = row_holds Holds region

  matches_holds : (k : Packet V W) (r : Rule A R) → Matches addr rests r k → Rows (rule_row pa pr r) (value_of k)
  matches_holds k r m = subst (λ o. MatchOption o ⊥ (λ x. Holds x (value_of k))) (sym (reads_rule r)) (m.interface, (m.source, (m.destination, m.rest)))

  holds_matches : (k : Packet V W) (r : Rule A R) → Rows (rule_row pa pr r) (value_of k) → Matches addr rests r k
  holds_matches k r h =
      let p = subst (λ o. MatchOption o ⊥ (λ x. Holds x (value_of k))) (reads_rule r) h in
      record { interface = p.0; source = p.1.0; destination = p.1.1.0; rest = p.1.1.1 }

  -- the rows decide a packet where the rules do, and as they do
  pub says_decided : (rs : List (Rule A R)) (k : Packet V W) (n : ℕ) (w : Decision) → Says Rows (map (rule_entry pa pr) rs) (value_of k) (matched n (decision_number w)) → Decided addr rests rs k n w
  says_decided rs k n w (e, f, o) =
      let (r, first, is) = first_unmap (rule_entry pa pr) (λ (q : Rule A R). Matches addr rests q k) (λ (x : Entry (Pair SetRow (Pair X (Pair X Y)))). Rows x.row (value_of k)) (matches_holds k) (holds_matches k) rs n e f in
      (r, first, number_one r.decision w (sym (ap (λ (x : Entry (Pair SetRow (Pair X (Pair X Y)))). x.outcome) is) ∙ o))

  pub decided_says : (rs : List (Rule A R)) (k : Packet V W) (n : ℕ) (w : Decision) → Decided addr rests rs k n w → Says Rows (map (rule_entry pa pr) rs) (value_of k) (matched n (decision_number w))
  decided_says rs k n w (r, first, is) =
      (rule_entry pa pr r, first_map (rule_entry pa pr) (λ (q : Rule A R). Matches addr rests q k) (λ (x : Entry (Pair SetRow (Pair X (Pair X Y)))). Rows x.row (value_of k)) (matches_holds k) (holds_matches k) rs n r first, ap decision_number is)

  pub says_unmatched : (rs : List (Rule A R)) (k : Packet V W) → Says Rows (map (rule_entry pa pr) rs) (value_of k) None → Unmatched addr rests rs k
  says_unmatched rs k none = nowhere_unmap (rule_entry pa pr) (λ (q : Rule A R). Matches addr rests q k) (λ (x : Entry (Pair SetRow (Pair X (Pair X Y)))). Rows x.row (value_of k)) (matches_holds k) (holds_matches k) rs none

  pub unmatched_says : (rs : List (Rule A R)) (k : Packet V W) → Unmatched addr rests rs k → Says Rows (map (rule_entry pa pr) rs) (value_of k) None
  unmatched_says rs k none = nowhere_map (rule_entry pa pr) (λ (q : Rule A R). Matches addr rests q k) (λ (x : Entry (Pair SetRow (Pair X (Pair X Y)))). Rows x.row (value_of k)) (matches_holds k) (holds_matches k) rs none
