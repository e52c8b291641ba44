-- The first block that shares an address with a region.
use Rattle.std.specs.Prelude.{ℕ, List, Option, MatchOption}
use Rattle.kinds.specs.Words.{Share}
use Rattle.search.specs.First.{First, Nowhere}
use Rattle.model.specs.Tree.{Block}

module _ {A V : Type 0} (addr : A → V → Type 0) where
  abbrev pub Shares : A → Block A → Type 0
  Shares x b = Share (addr b.region) (addr x)

  -- the region of a row shares an address with x. `ra` reads rows.
  abbrev pub RowShares : {X : Type 0} → (X → Option A) → A → X → Type 0
  RowShares ra x w = MatchOption (ra w) ⊥ (λ y. Share (addr y) (addr x))

  -- the first such block, or nothing exactly where no block does
  abbrev pub OverlapFound : List (Block A) → A → Option ℕ → Type 0
  OverlapFound bs x r = MatchOption r (Nowhere (Shares x) bs) (λ k. (b : Block A) × First (Shares x) bs k b)
