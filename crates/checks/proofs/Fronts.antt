-- What is found among the blocks from the first that meets a region on is found among all.
use Rattle.std.proofs.Common.{◌≡◌, ℕ, zero, suc, ◌+◌, ◌-◌, ◌≤◌, List, [], ◌∷◌, map, drop, Some, None, Option, MatchOption, sym, refl, ap, ◌∙◌, subst, inl, inr, arith}
use native.Mathlib.Decide.{dec_le}
use Rattle.std.specs.List.{slice_get}
use Rattle.kinds.specs.Words.{Share}
use Rattle.search.specs.First.{Before}
use Rattle.search.specs.declared.list.Entry.{Entry}
use Rattle.search.proofs.Mapped.{nth_map}
use Rattle.model.specs.Properties.{Of}
use Rattle.model.specs.Tree.{Tree, Block, with_blocks}
use Rattle.checks.specs.Addresses.{OwnedApart, AstrayFound, MeetsRow}
use Rattle.checks.specs.Rows.{block_entry}

pub drop_get : {X : Type 0} (n : ℕ) (xs : List X) (k : ℕ) → slice_get (drop n xs) k ≡ slice_get xs (n + k)
drop_get zero xs k = ap (slice_get xs) (omega arith)
drop_get (suc n) [] k = refl
drop_get (suc n) (x ∷ xs) k = let same : suc (n + k) ≡ suc n + k = omega arith in drop_get n xs k ∙ ap (slice_get (x ∷ xs)) same

module _ {A R V W X : Type 0} (addr : A → V → Type 0) (rests : R → W → Type 0) (pa : A → X) (ra : X → Option A) (reads : (x : A) → ra (pa x) ≡ Some x) (t : Tree A R) (x : A) (n : ℕ) where
  abbrev pub front : Tree A R
  front = with_blocks t (drop n t.blocks)

  -- no block before meets the region
  abbrev pub Clear : Type 0
  Clear = Before (λ (b : Block A). Share (addr x) (addr b.region)) t.blocks n

  pub clear_of : (es : List (Entry X)) → es ≡ map (block_entry pa) t.blocks → Before (λ (e : Entry X). MeetsRow addr ra e.row x) es n → Clear
  clear_of es is before k b less at share =
      before k (block_entry pa b) less (ap (λ l. slice_get l k) is ∙ nth_map (block_entry pa) t.blocks k b at) (subst (λ o. MatchOption o ⊥ (λ other. Share (addr x) (addr other))) (sym (reads b.region)) share)

  module _ (clear : Clear) where
    behind : (k : ℕ) (b : Block A) → n ≤ k → slice_get t.blocks k ≡ Some b → slice_get front.blocks (k - n) ≡ Some b
    behind k b le at = drop_get n t.blocks (k - n) ∙ ap (slice_get t.blocks) (omega arith) ∙ at

    of_whole : (v : V) (d : ℕ) → addr x v → Of addr rests t v d → Of addr rests front v d
    of_whole v d held (inl (k, b, at, h, is)) = elim (dec_le n k) [
      | yes le ↦ inl (k - n, b, behind k b le at, h, is)
      | no not ↦ absurd (clear k b (omega arith) at (v, held, h))
    ]
    of_whole v d held (inr (zero-d, none)) = inr (zero-d, λ k b at h. none (n + k) b (sym (drop_get n t.blocks k) ∙ at) h)

    of_front : (v : V) (d : ℕ) → addr x v → Of addr rests front v d → Of addr rests t v d
    of_front v d held (inl (k, b, at, h, is)) = inl (n + k, b, sym (drop_get n t.blocks k) ∙ at, h, is)
    of_front v d held (inr (zero-d, none)) = inr (
      zero-d,
      λ k b at h. elim (dec_le n k) [
        | yes le ↦ none (k - n) b (behind k b le at) h
        | no not ↦ clear k b (omega arith) at (v, held, h)
      ],
    )

    pub astray_front : (d : ℕ) (r : Option V) → AstrayFound addr rests front x d r → AstrayFound addr rests t x d r
    astray_front d None all = λ v h. of_front v d h (all v h)
    astray_front d (Some v) (h, not) = (h, λ of. not (of_whole v d h of))

  pub owned_front : OwnedApart addr t.blocks → OwnedApart addr front.blocks
  owned_front ok = record {
    owned = λ k b at. ok.owned (n + k) b (sym (drop_get n t.blocks k) ∙ at);
    apart = λ j k b c at-j at-k share.
        let same = ok.apart (n + j) (n + k) b c (sym (drop_get n t.blocks j) ∙ at-j) (sym (drop_get n t.blocks k) ∙ at-k) share in
        omega arith;
  }
