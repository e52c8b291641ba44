-- What one call more makes of a record and of a listing that is read.
use Rattle.std.proofs.Common.{◌≡◌, ℕ, zero, suc, ◌≤◌, ◌<◌, List, [], ◌∷◌, ◌++◌, length, take, drop, Some, None, Option, MatchOption, refl, sym, ap, ◌∙◌, arith}
use Rattle.std.specs.List.{slice_get}
use Rattle.kinds.proofs.Provided.{none_some}
use Rattle.model.specs.Record.{refused, Right, Said, unless, then_tree, tree_from, LawfulFrom}
use Rattle.model.specs.Refusals.{number, Applies}
use Rattle.model.specs.Tree.{Tree, after}
use Rattle.model.specs.declared.answers.Answer.{Answer}
use Rattle.model.specs.declared.answers.Lent.{Lent}
use Rattle.model.specs.declared.answers.Recorded.{Recorded}
use Rattle.model.specs.declared.answers.Refusal.{Refusal}
use Rattle.model.specs.declared.calls.Call.{Call}
use Rattle.model.specs.declared.calls.Call.TheVariants.{Attach, Branch, Give, Take, Place, Alter, Lift, Stand, Withdraw, Ask, Send}
use Rattle.rebuild.specs.Again.{built}

pub record Wholes {A R : Type 0} (t n : Tree A R) : Type 0 where
  pub addresses : n.addresses ≡ t.addresses
  pub rests : n.rests ≡ t.rests

pub split_at : {X : Type 0} (xs : List X) (j : ℕ) (x : X) → slice_get xs j ≡ Some x → xs ≡ take j xs ++ (x ∷ drop (suc j) xs)
split_at [] j x at = none_some at
split_at (y ∷ ys) zero x at = let same : y ≡ x = cc in ap (λ z. z ∷ ys) same
split_at (y ∷ ys) (suc j) x at = ap (λ zs. y ∷ zs) (split_at ys j x at)

pub none_behind : {X : Type 0} (xs : List X) (j : ℕ) → slice_get xs j ≡ None → length xs ≤ j
none_behind [] j at = omega arith
none_behind (y ∷ ys) zero at = none_some (sym at)
none_behind (y ∷ ys) (suc j) at = let le = none_behind ys j at in omega arith

module _ {A R V W : Type 0} where
  after_wholes : (t : Tree A R) (c : Call A R V W) → Wholes t (after t c)
  after_wholes t (Attach d i j w) = record { addresses = refl; rests = refl }
  after_wholes t (Branch f i) = record { addresses = refl; rests = refl }
  after_wholes t (Give d x) = record { addresses = refl; rests = refl }
  after_wholes t (Take b) = record { addresses = refl; rests = refl }
  after_wholes t (Place f p r) = record { addresses = refl; rests = refl }
  after_wholes t (Alter f p r) = record { addresses = refl; rests = refl }
  after_wholes t (Lift f p) = record { addresses = refl; rests = refl }
  after_wholes t (Stand p) = record { addresses = refl; rests = refl }
  after_wholes t (Withdraw n) = record { addresses = refl; rests = refl }
  after_wholes t (Ask p) = record { addresses = refl; rests = refl }
  after_wholes t (Send h) = record { addresses = refl; rests = refl }

  unless_wholes : (o : Option (Refusal V W)) (t n : Tree A R) → Wholes t n → Wholes t (unless o t n)
  unless_wholes None t n w = w
  unless_wholes (Some q) t n w = record { addresses = refl; rests = refl }

  -- the wholes never change
  pub same_wholes : (t : Tree A R) (es : List (Recorded A R V W)) → Wholes t (tree_from t es)
  same_wholes t [] = record { addresses = refl; rests = refl }
  same_wholes t (e ∷ es) =
      let first = unless_wholes (refused e.answer) t (after t e.call) (after_wholes t e.call) in
      let rest = same_wholes (then_tree t e) es in
      record { addresses = rest.addresses ∙ first.addresses; rests = rest.rests ∙ first.rests }

  pub tree_more : (t : Tree A R) (es : List (Recorded A R V W)) (e : Recorded A R V W) → tree_from t (es ++ (e ∷ [])) ≡ then_tree (tree_from t es) e
  tree_more t [] e = refl
  tree_more t (d ∷ es) e = tree_more (then_tree t d) es e

  -- a listing read up to one of its calls, and up to the next
  pub built_next : (t : Tree A R) (cs : List (Call A R V W)) (j : ℕ) (c : Call A R V W) → slice_get cs j ≡ Some c → built t (take (suc j) cs) ≡ after (built t (take j cs)) c
  built_next t [] j c at = none_some at
  built_next t (b ∷ cs) zero c at = let same : b ≡ c = cc in ap (after t) same
  built_next t (b ∷ cs) (suc j) c at = built_next (after t b) cs j c at

  -- where no refusal applies the right answer is none, and says what the call's line says
  pub right_unrefused : (addr : A → V → Type 0) (rests : R → W → Type 0) (t : Tree A R) (c : Call A R V W) (l : Lent) (a : Answer V W) → ((q : Refusal V W) → Applies addr rests t c l q → ⊥)
      → Right addr rests t c l a → (refused a ≡ None) × Said addr rests t c a
  right_unrefused addr rests t c l a none right = by (refused a) refl right
    where
      by : (o : Option (Refusal V W)) → refused a ≡ o
          → MatchOption o (((r : Refusal V W) → Applies addr rests t c l r → ⊥) × Said addr rests t c a) (λ r. Applies addr rests t c l r × ((q : Refusal V W) → number q < number r → Applies addr rests t c l q → ⊥))
          → (refused a ≡ None) × Said addr rests t c a
      by None e (other, said) = (e, said)
      by (Some r) e (applies, first) = absurd (none r applies)

  pub last_right : (addr : A → V → Type 0) (rests : R → W → Type 0) (t : Tree A R) (es : List (Recorded A R V W)) (e : Recorded A R V W) → LawfulFrom addr rests t (es ++ (e ∷ []))
      → Right addr rests (tree_from t es) e.call e.lent e.answer
  last_right addr rests t [] e law = law.1
  last_right addr rests t (d ∷ es) e law = last_right addr rests (then_tree t d) es e law.2
