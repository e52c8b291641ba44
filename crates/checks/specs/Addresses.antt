-- Addresses of a region that are not of a domain.
use Rattle.std.specs.Prelude.{◌≡◌, ℕ, ◌⊎◌, List, map, Some, None, Option, MatchOption, ◌≢◌}
use Rattle.std.specs.List.{slice_get}
use Rattle.kinds.specs.Words.{Inside, Share}
use Rattle.kinds.specs.declared.kind.Kind.{Ghosts}
use Rattle.search.specs.declared.list.Entry.{Entry}
use Rattle.search.specs.declared.list.Match.{Match}
use Rattle.model.specs.Properties.{Of}
use Rattle.model.specs.Tree.{Tree, Block}
use Rattle.checks.specs.Rows.{block_entry}

-- the domain that a match in the blocks means
abbrev pub domain_in : Option Match → ℕ
domain_in (Some block) = block.outcome
domain_in None = 0

-- no block is given to domain 0, and no two share an address
pub record OwnedApart {A V : Type 0} (addr : A → V → Type 0) (bs : List (Block A)) : Type 0 where
  pub owned : (k : ℕ) (b : Block A) → slice_get bs k ≡ Some b → b.domain ≢ 0
  pub apart : (j k : ℕ) (b c : Block A) → slice_get bs j ≡ Some b → slice_get bs k ≡ Some c → Share (addr b.region) (addr c.region) → j ≡ k

-- the rows are those of the tree's blocks
pub record BlocksAre {A R V X : Type 0} (kind : Ghosts A V X) (rows : List (Entry X)) (t : Tree A R) : Type 0 where
  pub same : rows ≡ map (block_entry kind.plain) t.blocks
  pub owned : OwnedApart kind.holds t.blocks

-- the region of a row holds all of this one; a row that no region has holds nothing
abbrev pub Covers : {A V X : Type 0} → (A → V → Type 0) → (X → Option A) → X → A → Type 0
Covers holds region w x = MatchOption (region w) ⊥ (λ around. Inside (holds x) (holds around))

-- the block at a position holds all of this region
abbrev pub CoversAt : {A V X : Type 0} → (A → V → Type 0) → (X → Option A) → List (Entry X) → ℕ → A → Type 0
CoversAt holds region rows p x = MatchOption (slice_get rows p) ⊥ (λ block. Covers holds region block.row x)

-- the region of a row shares a value with this one; a row that no region has shares none
abbrev pub MeetsRow : {A V X : Type 0} → (A → V → Type 0) → (X → Option A) → X → A → Type 0
MeetsRow holds region w x = MatchOption (region w) ⊥ (λ other. Share (holds x) (holds other))

-- the outcome of the addresses of a domain, in the rows of the blocks
abbrev pub Home : ℕ → Option ℕ → Type 0
Home d o = ((d ≡ 0) × (o ≡ None)) ⊎ ((d ≢ 0) × (o ≡ Some d))

module _ {A R V W : Type 0} (addr : A → V → Type 0) (rests : R → W → Type 0) where
  -- such an address, or nothing exactly where there is none
  abbrev pub AstrayFound : Tree A R → A → ℕ → Option V → Type 0
  AstrayFound t x d None = Inside (addr x) (λ (a : V). Of addr rests t a d)
  AstrayFound t x d (Some a) = addr x a × (Of addr rests t a d → ⊥)
