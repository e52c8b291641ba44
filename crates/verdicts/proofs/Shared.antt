-- Rows of blocks share what the blocks share.
use Rattle.std.proofs.Common.{◌≡◌, ℕ, List, map, Some, None, Option, sym, subst, MatchOption}
use Rattle.kinds.specs.Words.{Share}
use Rattle.search.specs.First.{First, Nowhere}
use Rattle.search.specs.declared.list.Entry.{Entry}
use Rattle.model.specs.Tree.{Block}
use Rattle.checks.specs.Rows.{block_entry}
use Rattle.search.proofs.Mapped.{first_unmap, nowhere_unmap}
use Rattle.verdicts.specs.Overlap.{Shares, RowShares, OverlapFound}

module _ {A V X : Type 0} (addr : A → V → Type 0) (pa : A → X) (ra : X → Option A) (reads : (x : A) → ra (pa x) ≡ Some x) (x : A) where
  abbrev pub EntryShares : Entry X → Type 0
  EntryShares e = RowShares addr ra x e.row

  into : (b : Block A) → Shares addr x b → EntryShares (block_entry pa b)
  into b h = subst (λ o. MatchOption o ⊥ (λ y. Share (addr y) (addr x))) (sym (reads b.region)) h

  out : (b : Block A) → EntryShares (block_entry pa b) → Shares addr x b
  out b h = subst (λ o. MatchOption o ⊥ (λ y. Share (addr y) (addr x))) (reads b.region) h

  module _ (es : List (Entry X)) (bs : List (Block A)) (is : es ≡ map (block_entry pa) bs) where
    pub shared_found : (r : Option ℕ) → MatchOption r (Nowhere EntryShares es) (λ k. (e : Entry X) × First EntryShares es k e) → OverlapFound addr bs x r
    shared_found None none = nowhere_unmap (block_entry pa) (Shares addr x) EntryShares into out bs (subst (Nowhere EntryShares) is none)
    shared_found (Some k) (e, f) =
        let (b, first, same) = first_unmap (block_entry pa) (Shares addr x) EntryShares into out bs k e (subst (λ l. First EntryShares l k e) is f) in
        (b, first)
