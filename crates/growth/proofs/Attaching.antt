-- Attach: a firewall with one rule for everything, and a domain below it.
use Rattle.std.proofs.Common.{◌≡◌, ℕ, suc, ◌+◌, ◌-◌, ◌<◌, ◌≤◌, Bool, cond, ◌⊎◌, List, [], ◌∷◌, ◌++◌, length, take, set, Some, Ok, Err, Decides, sym, ap, ◌∙◌, subst, ap₂, inl, inr, arith}
use mathlib.Core.HLevel.{×_prop}
use native.Mathlib.Bridge.{le_prop}
use Rattle.std.proofs.lemmas.List.{take_more_set}
use Rattle.std.proofs.lemmas.Bool.{cases_lt}
use Rattle.kinds.specs.declared.kind.Kind.{Ghosts}
use Rattle.kinds.specs.Set.{set_of}
use Rattle.kinds.specs.declared.pair.Pair.{Pair}
use Rattle.kinds.specs.declared.set.SetRow.{SetRow}
use Rattle.kinds.specs.Makes.{provided_yes}
use Rattle.search.specs.declared.list.Entry.{Entry}
use Rattle.model.specs.Limits.{max_domains, max_interfaces, max_rules}
use Rattle.model.specs.Record.{Right}
use Rattle.model.specs.Refusals.{IsTooShort}
use Rattle.model.specs.Shape.{Shape, Domain}
use Rattle.model.specs.Tree.{Tree, all_interfaces, whole_rule}
use Rattle.model.specs.declared.answers.Answer.TheVariants.{Attached, Refused}
use Rattle.model.specs.declared.answers.Lent.{Lent}
use Rattle.model.specs.declared.answers.Refusal.TheVariants.{NoSuch, BadInterface, Full}
use Rattle.model.specs.declared.calls.Call.{Call}
use Rattle.model.specs.declared.calls.Call.TheVariants.{Attach}
use Rattle.model.specs.declared.rules.Decision.{Decision}
use Rattle.model.specs.declared.rules.Rule.{Rule}
use Rattle.model.proofs.Grown.{Grown}
use Rattle.tree.specs.Table.{shape_of, Attaches, Apart}
use Rattle.tree.specs.declared.refusal.TreeRefusal as refused
use Rattle.tree.specs.declared.refusal.TreeRefusal.{TreeRefusal}
use Rattle.tree.specs.declared.table.TreeTable.{TreeTable}
use Rattle.lists.specs.Layout.{Laid}
use Rattle.lists.specs.Lengths.{lengths_of}
use Rattle.lists.proofs.Laid.{laid_count, laid_total, laid_added}
use Rattle.checks.specs.Rows.{rule_entry}
use Rattle.state.specs.Picture.{Pictures}
use Rattle.state.specs.Rows.{Stored, rule_count, catch_all}
use Rattle.state.specs.declared.state.State.{State}
use Rattle.state.proofs.Lent.{lent_enough}
use Rattle.state.proofs.Order.{Below, below_one, more, none, refuse}
use Rattle.state.proofs.Tries.{chosen}

-- the mask of all interfaces is that set
pub reads_all : set_of 4294967295 ≡ Some all_interfaces
reads_all = provided_yes _ _ (×_prop le_prop le_prop) (all_interfaces.some, all_interfaces.few)

-- one more is not too many
pub room_for_one : (m n : ℕ) → (m < n + 1 → ⊥) → n < m
room_for_one m n h = omega arith

-- after the checks the tree table does not refuse
pub attach_sure : (tree last : TreeTable) (d i j : ℕ) (q : TreeRefusal) → Domain (shape_of tree) d → Apart i j → (max_domains < suc (length (shape_of tree).domains) + 1 → ⊥) → Attaches tree d i j (Err q) last → ⊥
attach_sure tree last d i j refused.TheVariants.NoSuch there apart room a = a.0 there
attach_sure tree last d i j refused.TheVariants.BadInterface there apart room a = a.1 apart
attach_sure tree last d i j refused.TheVariants.Full there apart room a = room (omega (arith, a.2))

-- a domain that is not missing is there
pub domain_there : (tree : TreeTable) (d : ℕ) → ((Domain (shape_of tree) d → ⊥) → ⊥) → Domain (shape_of tree) d
domain_there tree d h = elim (cases_lt (length (shape_of tree).domains) d) [ inl less ↦ absurd (h (λ le. omega arith)) | inr le ↦ le ]

-- interfaces that are not refused
pub interfaces_apart : (i j : ℕ) → ((max_interfaces ≤ i) ⊎ ((max_interfaces ≤ j) ⊎ (i ≡ j)) → ⊥) → Apart i j
interfaces_apart i j ok =
    let low : (n : ℕ) → (max_interfaces ≤ n → ⊥) → n < max_interfaces = λ n h. omega arith in
    (low i (λ h. ok (inl h)), low j (λ h. ok (inr (inl h))), λ h. ok (inr (inr h)))

-- the rule for everything is written behind the used rows
pub attach_rows : {A R X Y : Type 0} (pa : A → X) (pr : R → Y) (g : State A R) (w : Decision) (l : Lent) → (IsTooShort l → ⊥) → (max_rules < rule_count g + 1 → ⊥)
    → (before after : List (Entry (Pair SetRow (Pair X (Pair X Y))))) → l.rules ≡ length before → (total : ℕ) (row : Entry (Pair SetRow (Pair X (Pair X Y)))) (rule : Rule A R) → total ≡ rule_count g → row ≡ rule_entry pa pr rule → rule ≡ catch_all g w
    → (r : Bool) → Decides r ((total < total + 1) × (total + 1 ≤ length before)) → after ≡ cond r (set before total row) before → after ≡ set before (rule_count g) (rule_entry pa pr (catch_all g w))
attach_rows pa pr g w l long room before after size total row rule there is whole r tells next =
    let enough = lent_enough l long in
    chosen r (set before total row) before after tells (omega arith, omega arith) next ∙ ap₂ (λ n x. set before n x) there (is ∙ ap (rule_entry pa pr) whole)

module _ {A R V W X Y : Type 0} (ka : Ghosts A V X) (kr : Ghosts R W Y) (g : State A R) (s : Stored X Y) (t : Tree A R) (pic : Pictures ka.plain kr.plain g s t)
    (d i j : ℕ) (w : Decision) (l : Lent) (long : IsTooShort l → ⊥) where
  abbrev call : Call A R V W
  call = Attach d i j w

  below_two : Below ka.holds kr.holds t call l 2
  below_two = more ka.holds kr.holds t call l 1 (below_one ka.holds kr.holds t call l) long

  pub attach_nowhere : (Domain (shape_of g.tree) d → ⊥) → Right ka.holds kr.holds t call l (Refused NoSuch)
  attach_nowhere none = refuse ka.holds kr.holds t call l NoSuch below_two (λ x. none (subst (λ z. Domain z d) (sym pic.shape) x))

  module _ (there : (Domain (shape_of g.tree) d → ⊥) → ⊥) where
    below_three : Below ka.holds kr.holds t call l 3
    below_three = more ka.holds kr.holds t call l 2 below_two (λ n. there (λ h. n (subst (λ z. Domain z d) pic.shape h)))

    pub attach_badly : (max_interfaces ≤ i) ⊎ ((max_interfaces ≤ j) ⊎ (i ≡ j)) → Right ka.holds kr.holds t call l (Refused BadInterface)
    attach_badly bad = refuse ka.holds kr.holds t call l BadInterface below_three bad

    module _ (ok : (max_interfaces ≤ i) ⊎ ((max_interfaces ≤ j) ⊎ (i ≡ j)) → ⊥) where
      below_four : Below ka.holds kr.holds t call l 4
      below_four = more ka.holds kr.holds t call l 3 below_three ok

      domains : length (shape_of g.tree).domains ≡ length t.shape.domains
      domains = ap (λ (z : Shape). length z.domains) pic.shape

      pub attach_full : (max_domains < suc (length (shape_of g.tree).domains) + 1) ⊎ (max_rules < rule_count g + 1) → Right ka.holds kr.holds t call l (Refused Full)
      attach_full (inl few) = refuse ka.holds kr.holds t call l Full below_four (inl (let e = domains in omega arith))
      attach_full (inr few) = refuse ka.holds kr.holds t call l Full below_four (inr (let e = laid_total pic.lists in omega arith))

      pub attach_right : ((max_domains < suc (length (shape_of g.tree).domains) + 1) ⊎ (max_rules < rule_count g + 1) → ⊥) → (made : ℕ × ℕ) (last : TreeTable) → Attaches g.tree d i j (Ok made) last
          → Right ka.holds kr.holds t call l (Attached made.0 made.1)
      attach_right room made last a =
          let up = more ka.holds kr.holds t call l in
          let five = up 4 below_four (λ x. elim x [
            | inl few ↦ room (inl (let e = domains in omega arith))
            | inr few ↦ room (inr (let e = laid_total pic.lists in omega arith))
          ]) in
          let eight = up 7 (up 6 (up 5 five (λ x. x tt)) (λ x. x.1)) (λ x. x) in
          let eleven = up 10 (up 9 (up 8 eight (λ x. x.1)) (λ x. x.1)) (λ x. x.1) in
          let all = up 12 (up 11 eleven (λ x. x.2)) (λ x. x.3) in
          let firewalls = ap (λ (z : Shape). length z.firewalls) pic.shape in
          let first = a.2 ∙ firewalls in
          let second = a.3 ∙ ap suc domains in
          (none ka.holds kr.holds t call l all, λ x. Attached (first x) (second x))

  -- the table of rules after it, and the lists that it holds
  pub attach_lists : (lens : List ℕ) (rules : List (Entry (Pair SetRow (Pair X (Pair X Y))))) → l.rules ≡ length s.rules → (max_rules < rule_count g + 1 → ⊥) → lens ≡ lengths_of g.lists ++ (1 ∷ []) → rules ≡ set s.rules (rule_count g) (rule_entry ka.plain kr.plain (catch_all g w))
      → Laid (rule_entry ka.plain kr.plain) lens rules (t.lists ++ ((whole_rule t w ∷ []) ∷ []))
  attach_lists lens rules size room next is =
      let enough = lent_enough l long in
      let within : rule_count g < length s.rules = omega arith in
      let rule : catch_all g w ≡ whole_rule t w = λ x. record { interfaces = all_interfaces; source = pic.addresses x; destination = pic.addresses x; rest = pic.rests x; decision = w } in
      subst (λ ns. Laid (rule_entry ka.plain kr.plain) ns rules (t.lists ++ ((whole_rule t w ∷ []) ∷ []))) (sym next)
      (laid_added pic.lists (whole_rule t w) rules (ap (take (rule_count g + 1)) is ∙ take_more_set s.rules (rule_count g) (rule_entry ka.plain kr.plain (catch_all g w)) within ∙ ap (λ r. take (rule_count g) s.rules ++ (rule_entry ka.plain kr.plain r ∷ [])) rule))

  -- there is room for a list where there is for a domain
  pub attach_room : Grown ka.holds kr.holds t → (max_domains < suc (length (shape_of g.tree).domains) + 1 → ⊥) → length (lengths_of g.lists) < max_domains - 1
  attach_room grown room =
      let count = laid_count pic.lists ∙ grown.lists ∙ ap (λ (z : Shape). length z.firewalls) (sym pic.shape) in
      let fewer = g.tree.fewer in
      omega arith
