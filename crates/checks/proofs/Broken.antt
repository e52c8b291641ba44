-- What the search tells of the packets of a property.
use Rattle.std.proofs.Common.{◌≡◌, ℕ, ◌<◌, List, map, Some, None, Option, sym, refl, subst, arith}
use mathlib.Core.Path.{subst₃}
use Rattle.kinds.specs.Pair.{pair_holds}
use Rattle.kinds.specs.Set.{set_holds}
use Rattle.kinds.specs.Words.{Exactly}
use Rattle.kinds.specs.declared.pair.Pair.{Pair}
use Rattle.kinds.specs.declared.set.Set.{Set}
use Rattle.search.specs.Answer.{Witness, Answered, Hopeless}
use Rattle.search.specs.List.{Says, outcome}
use Rattle.search.proofs.Walks.{matched}
use Rattle.search.specs.declared.answer.Found.{Found}
use Rattle.kinds.specs.declared.set.SetRow.{SetRow}
use Rattle.search.specs.declared.list.Entry.{Entry}
use Rattle.search.specs.declared.list.Match.{Match}
use Rattle.search.specs.declared.list.Wish.TheVariants.{Is}
use Rattle.model.specs.Limits.{max_interfaces}
use Rattle.model.specs.Packets.{Decided, Unmatched, decision_number, packet_of, value_of}
use Rattle.model.specs.Tree.{Tree}
use Rattle.model.specs.declared.rules.Decision.{Decision}
use Rattle.model.specs.declared.rules.Packet.{Packet}
use Rattle.model.specs.declared.rules.Property.{Property}
use Rattle.model.specs.declared.rules.Rule.{Rule}
use Rattle.checks.specs.Breaks.{packet_in, decided_against, BreaksList, BreakFound, UnmatchedFound}
use Rattle.checks.specs.Rows.{rule_entry}
use Rattle.checks.proofs.Lists.{Holds, Rows, says_decided, decided_says, says_unmatched, unmatched_says}

module _ {A R V W X Y : Type 0} (addr : A → V → Type 0) (rests : R → W → Type 0) (pa : A → X) (pr : R → Y) (ra : X → Option A) (rr : Y → Option R)
    (reads-a : (x : A) → ra (pa x) ≡ Some x) (reads-r : (x : R) → rr (pr x) ≡ Some x) where
  -- a match with this outcome number is a decision
  met_decided : (rs : List (Rule A R)) (v : Pair ℕ (Pair V (Pair V W))) (w : Decision) (m : Option Match)
      → Says (Rows addr rests pa pr ra rr reads-a reads-r) (map (rule_entry pa pr) rs) v m → outcome m ≡ Some (decision_number w) → (n : ℕ) × Decided addr rests rs (packet_of v) n w
  met_decided rs v w (Some m) says met =
      let same : m.outcome ≡ decision_number w = cc in
      (m.position, says_decided addr rests pa pr ra rr reads-a reads-r rs (packet_of v) m.position w (subst (λ k. Says (Rows addr rests pa pr ra rr reads-a reads-r) (map (rule_entry pa pr) rs) v (matched m.position k)) same says))
  met_decided rs v w None says met = let z : ◌≡◌ {A = ℕ} 0 1 = cc in absurd (omega arith)

  module _ (rs : List (Rule A R)) (p : Property A R) (i : ℕ) (one : Set) (real : i < max_interfaces) (only : Exactly (set_holds one) (λ v. v ≡ i)) where
    abbrev pub target : Pair Set (Pair A (Pair A R))
    target = record { left = one; right = record { left = p.source; right = record { left = p.destination; right = p.rest } } }

    pub witness_breaks : (f : Found (Pair ℕ (Pair V (Pair V W))))
        → Witness (Rows addr rests pa pr ra rr reads-a reads-r) (map (rule_entry pa pr) rs) (Holds addr rests pa pr ra rr reads-a reads-r target) (Is (Some (decision_number (decided_against p.sort)))) f
        → BreaksList addr rests rs p i (packet_of f.value)
    witness_breaks f w = record {
      source = w.held.1.0;
      destination = w.held.1.1.0;
      rest = w.held.1.1.1;
      entered = only.0 _ w.held.0;
      real = real;
      against = met_decided rs f.value (decided_against p.sort) f.decided w.says w.met;
    }

    pub hopeless_keeps : Hopeless (Rows addr rests pa pr ra rr reads-a reads-r) (map (rule_entry pa pr) rs) (Is (Some (decision_number (decided_against p.sort)))) (Holds addr rests pa pr ra rr reads-a reads-r target)
        → (k : Packet V W) → BreaksList addr rests rs p i k → ⊥
    hopeless_keeps none k b =
        none (value_of k) (matched b.against.0 (decision_number (decided_against p.sort))) (only.1 _ b.entered, (b.source, (b.destination, b.rest)))
        (decided_says addr rests pa pr ra rr reads-a reads-r rs k b.against.0 (decided_against p.sort) b.against.1) refl

    -- the same with list, number and target as a call has them
    module _ (es : List (Entry (Pair SetRow (Pair X (Pair X Y))))) (n : ℕ) (aim : Pair Set (Pair A (Pair A R))) (listed : es ≡ map (rule_entry pa pr) rs)
        (wished : n ≡ decision_number (decided_against p.sort)) (aimed : aim ≡ target) where
      pub called_breaks : (f : Found (Pair ℕ (Pair V (Pair V W)))) → Witness (Rows addr rests pa pr ra rr reads-a reads-r) es (Holds addr rests pa pr ra rr reads-a reads-r aim) (Is (Some n)) f → BreaksList addr rests rs p i (packet_of f.value)
      called_breaks f w = witness_breaks f (subst₃ (λ l m x. Witness (Rows addr rests pa pr ra rr reads-a reads-r) l (Holds addr rests pa pr ra rr reads-a reads-r x) (Is (Some m)) f) listed wished aimed w)

      pub called_keeps : Hopeless (Rows addr rests pa pr ra rr reads-a reads-r) es (Is (Some n)) (Holds addr rests pa pr ra rr reads-a reads-r aim) → (k : Packet V W) → BreaksList addr rests rs p i k → ⊥
      called_keeps none = hopeless_keeps (subst₃ (λ l m x. Hopeless (Rows addr rests pa pr ra rr reads-a reads-r) l (Is (Some m)) (Holds addr rests pa pr ra rr reads-a reads-r x)) listed wished aimed none)

      pub called_found : (o : Option (Found (Pair ℕ (Pair V (Pair V W))))) → Answered (Rows addr rests pa pr ra rr reads-a reads-r) es (Holds addr rests pa pr ra rr reads-a reads-r aim) (Is (Some n)) o → BreakFound addr rests rs p i (packet_in o)
      called_found None none = called_keeps none
      called_found (Some f) w = called_breaks f w

  -- the whole: a packet that no rule matches, and none where there is none
  module _ (t : Tree A R) (rs : List (Rule A R)) (es : List (Entry (Pair SetRow (Pair X (Pair X Y))))) (aim : Pair Set (Pair A (Pair A R))) (listed : es ≡ map (rule_entry pa pr) rs)
      (interfaces : Exactly (set_holds aim.left) (λ v. v < max_interfaces)) (parts : aim.right ≡ record { left = t.addresses; right = record { left = t.addresses; right = t.rests } }) where
    in_parts : (v : Pair V (Pair V W)) → pair_holds addr (pair_holds addr rests) aim.right v → addr t.addresses v.left × (addr t.addresses v.right.left × rests t.rests v.right.right)
    in_parts v h = subst (λ x. pair_holds addr (pair_holds addr rests) x v) parts h

    of_parts : (v : Pair V (Pair V W)) → addr t.addresses v.left × (addr t.addresses v.right.left × rests t.rests v.right.right) → pair_holds addr (pair_holds addr rests) aim.right v
    of_parts v h = subst (λ x. pair_holds addr (pair_holds addr rests) x v) (sym parts) h

    met_unmatched : (v : Pair ℕ (Pair V (Pair V W))) (m : Option Match) → Says (Rows addr rests pa pr ra rr reads-a reads-r) (map (rule_entry pa pr) rs) v m → outcome m ≡ None → Unmatched addr rests rs (packet_of v)
    met_unmatched v (Some m) says met = let z : ◌≡◌ {A = ℕ} 0 1 = cc in absurd (omega arith)
    met_unmatched v None says met = says_unmatched addr rests pa pr ra rr reads-a reads-r rs (packet_of v) says

    pub unmatched_found : (o : Option (Found (Pair ℕ (Pair V (Pair V W))))) → Answered (Rows addr rests pa pr ra rr reads-a reads-r) es (Holds addr rests pa pr ra rr reads-a reads-r aim) (Is None) o → UnmatchedFound addr rests t rs (packet_in o)
    unmatched_found None hopeless = λ k whole none.
        hopeless (value_of k) None (interfaces.1 _ whole.interface, of_parts _ (whole.source, (whole.destination, whole.rest)))
        (subst (λ l. Says (Rows addr rests pa pr ra rr reads-a reads-r) l (value_of k) None) (sym listed) (unmatched_says addr rests pa pr ra rr reads-a reads-r rs k none)) refl
    unmatched_found (Some f) w =
        let p = in_parts f.value.right w.held.1 in (
          record { interface = interfaces.0 _ w.held.0; source = p.0; destination = p.1.0; rest = p.1.1 },
          met_unmatched f.value f.decided (subst (λ l. Says (Rows addr rests pa pr ra rr reads-a reads-r) l f.value f.decided) listed w.says) w.met,
        )
