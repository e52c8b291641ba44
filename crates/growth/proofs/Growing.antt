-- The tree grows as the calls say.
use Rattle.std.proofs.Common.{◌≡◌, ℕ, suc, ◌≤◌, ◌⊎◌, length, Ok, Err, sym, ap, ◌∙◌, subst, inl, inr, arith}
use Rattle.model.specs.Record.{Right}
use Rattle.model.specs.Refusals.{IsTooShort}
use Rattle.model.specs.Shape.{Shape, Firewall, Joined}
use Rattle.model.specs.Tree.{Tree}
use Rattle.model.specs.declared.answers.Answer.TheVariants.{Branched, Refused}
use Rattle.model.specs.declared.answers.Lent.{Lent}
use Rattle.model.specs.declared.answers.Refusal.TheVariants.{NoSuch, BadInterface, Full}
use Rattle.model.specs.declared.calls.Call.TheVariants.{Branch}
use Rattle.tree.specs.Table.{shape_of, Branches, Free}
use Rattle.tree.specs.declared.refusal.TreeRefusal as refused
use Rattle.tree.specs.declared.refusal.TreeRefusal.{TreeRefusal}
use Rattle.tree.specs.declared.table.TreeTable.{TreeTable}
use Rattle.tree.specs.Refusals.{refusal_of}
use Rattle.state.proofs.Order.{Below, below_one, more, none, refuse}

-- a refused branch leaves the tree as it was
pub branch_same : (tree last : TreeTable) (f i : ℕ) (q : TreeRefusal) → Branches tree f i (Err q) last → last ≡ tree
branch_same tree last f i refused.TheVariants.NoSuch b = b.1
branch_same tree last f i refused.TheVariants.BadInterface b = b.2
branch_same tree last f i refused.TheVariants.Full b = b.3

module _ {A R V W : Type 0} (addr : A → V → Type 0) (rests : R → W → Type 0) (tree : TreeTable) (t : Tree A R) (shape : shape_of tree ≡ t.shape) (l : Lent) (long : IsTooShort l → ⊥) where
  module _ (f i : ℕ) where
    below_two : Below {V = V} {W = W} addr rests t (Branch f i) l 2
    below_two = more addr rests t (Branch f i) l 1 (below_one addr rests t (Branch f i) l) long

    below_three : Firewall (shape_of tree) f → Below {V = V} {W = W} addr rests t (Branch f i) l 3
    below_three there = more addr rests t (Branch f i) l 2 below_two (λ n. n (subst (λ z. Firewall z f) shape there))

    below_four : Firewall (shape_of tree) f → Free (shape_of tree) f i → Below {V = V} {W = W} addr rests t (Branch f i) l 4
    below_four there free = more addr rests t (Branch f i) l 3 (below_three there) (λ x. elim x [ inl high ↦ omega (arith, free.0) | inr (d, j) ↦ free.1 d (subst (λ z. Joined z f d i) (sym shape) j) ])

    pub branch_right : (d : ℕ) (last : TreeTable) → Branches tree f i (Ok d) last → Right {V = V} {W = W} addr rests t (Branch f i) l (Branched d)
    branch_right d last (there, free, made, room, next) =
        let domains = ap (λ (z : Shape). length z.domains) shape in
        let five = more addr rests t (Branch f i) l 4 (below_four there free) (λ x. omega arith) in
        let six = more addr rests t (Branch f i) l 5 five (λ x. x tt) in
        let seven = more addr rests t (Branch f i) l 6 six (λ x. x.1) in
        let eight = more addr rests t (Branch f i) l 7 seven (λ x. x) in
        let nine = more addr rests t (Branch f i) l 8 eight (λ x. x.1) in
        let ten = more addr rests t (Branch f i) l 9 nine (λ x. x.1) in
        let eleven = more addr rests t (Branch f i) l 10 ten (λ x. x.1) in
        let twelve = more addr rests t (Branch f i) l 11 eleven (λ x. x.2) in
        let all = more addr rests t (Branch f i) l 12 twelve (λ x. x.3) in
        (none addr rests t (Branch f i) l all, ap Branched (made ∙ ap suc domains))

    pub branch_refused : (q : TreeRefusal) (last : TreeTable) → Branches tree f i (Err q) last → Right {V = V} {W = W} addr rests t (Branch f i) l (Refused (refusal_of q))
    branch_refused refused.TheVariants.NoSuch last (no_such, same) = refuse addr rests t (Branch f i) l NoSuch below_two (λ x. no_such (subst (λ z. Firewall z f) (sym shape) x))
    branch_refused refused.TheVariants.BadInterface last (there, bad, same) =
        refuse addr rests t (Branch f i) l BadInterface (below_three there) (subst (λ z. (32 ≤ i) ⊎ ((d : ℕ) × Joined z f d i)) shape bad)
    branch_refused refused.TheVariants.Full last (there, free, full, same) =
        let domains = ap (λ (z : Shape). length z.domains) shape in
        refuse addr rests t (Branch f i) l Full (below_four there free) (omega arith)
