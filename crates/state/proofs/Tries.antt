-- What is left to show of a call that is refused, and of one that is not.
use mathlib.Core.HLevel.{is_prop→PathP}
use Rattle.std.proofs.Common.{◌≡◌, ℕ, ◌≤◌, Bool, cond, IfSome, IsErrAnd, List, Some, Ok, Err, Decides, Option, Result, sym, refl, ap, ◌∙◌, subst, subst₂}
use Rattle.std.specs.List.{slice_get}
use native.Mathlib.Bridge.{le_prop}
use Rattle.kinds.specs.declared.kind.Kind.{Ghosts}
use Rattle.model.specs.Limits.{max_blocks, max_properties}
use Rattle.model.specs.Properties.{Guarded}
use Rattle.model.specs.Record.{Right}
use Rattle.model.specs.Refusals.{IsTooShort}
use Rattle.model.specs.Tree.{Tree, start}
use Rattle.model.specs.declared.answers.Answer.{Answer}
use Rattle.model.specs.declared.answers.Answer.TheVariants.{Refused}
use Rattle.model.specs.declared.answers.Lent.{Lent}
use Rattle.model.specs.declared.answers.Refusal.{Refusal}
use Rattle.model.specs.declared.answers.Refusal.TheVariants.{TooShort}
use Rattle.model.specs.declared.calls.Call.{Call}
use Rattle.model.proofs.Grown.{Grown, grown_plain}
use Rattle.model.proofs.Meanings.{guarded_last}
use Rattle.checks.specs.Addresses.{OwnedApart}
use Rattle.state.specs.Picture.{Pictures, Reached, Tried}
use Rattle.state.specs.Rows.{Stored}
use Rattle.state.specs.declared.state.State.{State}
use Rattle.state.proofs.Order.{below_one, refuse}

-- where a test holds, what it chooses is the first
pub chosen : {P X : Type 0} (r : Bool) (x y z : X) → Decides r P → P → z ≡ cond r x y → z ≡ x
chosen r x y z tells p is = is ∙ ap (λ b. cond b x y) (tells.1 p)

-- the row that an edit answers, where it answers one
pub row_answered : {X : Type 0} (rows : List X) (n : ℕ) (o : Option X) (x : X) → o ≡ Some x → IfSome o (λ row. slice_get rows n ≡ Some row) → slice_get rows n ≡ Some x
row_answered rows n o x is h = subst (λ z. IfSome z (λ row. slice_get rows n ≡ Some row)) is h

-- states with equal parts are equal
pub state_same : {A R : Type 0} (g h : State A R) → h.addresses ≡ g.addresses → h.rests ≡ g.rests → h.tree ≡ g.tree → h.lists ≡ g.lists
    → h.block_count ≡ g.block_count → h.property_count ≡ g.property_count → h ≡ g
state_same g h a r t l b p i = record {
  addresses = a i;
  rests = r i;
  tree = t i;
  lists = l i;
  block_count = b i;
  property_count = p i;
  blocks = is_prop→PathP (λ j. b j ≤ max_blocks) (λ j. le_prop) h.blocks g.blocks i;
  properties = is_prop→PathP (λ j. p j ≤ max_properties) (λ j. le_prop) h.properties g.properties i;
}

module _ {A R V W : Type 0} (addr : A → V → Type 0) (rests : R → W → Type 0) where
  -- a tree that is reached is well made, and what stands in it is guarded
  pub reached_grown : (t : Tree A R) → Reached {V = V} {W = W} addr rests t → Grown addr rests t
  reached_grown t (a, r, es, law, is) = subst (Grown addr rests) (sym is) (grown_plain addr rests a r es law)

  -- its blocks are owned, and apart
  pub owned_apart : (t : Tree A R) → Grown addr rests t → OwnedApart addr t.blocks
  owned_apart t grown = record { owned = λ k b e. (grown.owned k b e).0; apart = grown.apart }

  pub reached_guarded : (t : Tree A R) → Reached {V = V} {W = W} addr rests t → Guarded addr rests t
  reached_guarded t (a, r, es, law, is) = subst (Guarded addr rests) (sym is) (guarded_last addr rests (start a r) es law)

module _ {A R V W X Y : Type 0} (ka : Ghosts A V X) (kr : Ghosts R W Y) {B : Type 0} (c : Call A R V W) (l : Lent) (say : B → Answer V W) (g h : State A R) (s z : Stored X Y) where
  -- a refusal that is right, and leaves state and tables as they were
  pub tried_refused : (IsTooShort l → ⊥) → (e : Refusal V W) → h ≡ g → z ≡ s → ((t : Tree A R) → Reached {V = V} {W = W} ka.holds kr.holds t → Pictures ka.plain kr.plain g s t → Right ka.holds kr.holds t c l (Refused e))
      → Tried ka kr g s c l say (Err e) h z
  tried_refused long e same kept right = record {
    turns = λ t reached pic. (right t reached pic, subst₂ (λ x y. Pictures ka.plain kr.plain x y t) (sym same) (sym kept) pic);
    state = same;
    tables = kept;
    short = λ x. absurd (long x);
  }

  -- the first refusal of all
  pub tried_short : h ≡ g → z ≡ s → IsTooShort l → Tried ka kr g s c l say (Err TooShort) h z
  tried_short same kept short = record {
    turns = λ t reached pic. (refuse ka.holds kr.holds t c l TooShort (below_one ka.holds kr.holds t c l) short, subst₂ (λ x y. Pictures ka.plain kr.plain x y t) (sym same) (sym kept) pic);
    state = same;
    tables = kept;
    short = λ x. refl;
  }

module _ {A R V W X Y : Type 0} (ka : Ghosts A V X) (kr : Ghosts R W Y) {B : Type 0} (c : Call A R V W) (l : Lent) (say : B → Answer V W) (g : State A R) (s : Stored X Y) where
  -- the exit of a check that refuses as q, which is e, before anything has changed
  pub tried_exit : (q e : Refusal V W) → q ≡ e → (r : Result B (Refusal V W)) → IsErrAnd r (λ y. y ≡ q) → (IsTooShort l → ⊥) → ((t : Tree A R) → Reached {V = V} {W = W} ka.holds kr.holds t → Pictures ka.plain kr.plain g s t → Right ka.holds kr.holds t c l (Refused e))
      → Tried ka kr g s c l say r g s
  tried_exit q e is (Ok x) no-error long right = absurd no-error
  tried_exit q e is (Err y) as-q long right = subst (λ z. Tried ka kr g s c l say (Err z) g s) (sym (as-q ∙ is)) (tried_refused ka kr c l say g g s s long e refl refl right)

  -- the exit of checks whose refusal is right
  pub tried_exit_right : (q : Refusal V W) (r : Result B (Refusal V W)) → IsErrAnd r (λ y. y ≡ q) → (IsTooShort l → ⊥) → ((t : Tree A R) → Reached {V = V} {W = W} ka.holds kr.holds t → Pictures ka.plain kr.plain g s t → Right ka.holds kr.holds t c l (Refused q))
      → Tried ka kr g s c l say r g s
  tried_exit_right q = tried_exit q q refl

  pub tried_exit_short : (q : Refusal V W) → q ≡ TooShort → (r : Result B (Refusal V W)) → IsErrAnd r (λ y. y ≡ q) → IsTooShort l → Tried ka kr g s c l say r g s
  tried_exit_short q is (Ok x) no-error short = absurd no-error
  tried_exit_short q is (Err y) as-q short = subst (λ z. Tried ka kr g s c l say (Err z) g s) (sym (as-q ∙ is)) (tried_short ka kr c l say g g s s refl refl short)
