-- What a look at a region meets in a view, entry by entry. x is the region, and c a value of it.
use Rattle.std.specs.Prelude.{◌≡◌, ℕ, ◌+◌, Bool, true, false, List}
use mathlib.Core.List.{Memᴰ}
use Rattle.kinds.specs.Words.{Inside, Share, Disjoint}
use Rattle.kinds.specs.Related.{Related}
use Rattle.kinds.specs.declared.relation.Relation.TheVariants.{Crossing}
use Rattle.search.specs.First.{Before}
use Rattle.search.specs.View.{Holds, WellDecided, regions_of}
use Rattle.search.specs.declared.look.Met as met
use Rattle.search.specs.declared.look.Met.{Met}
use Rattle.search.specs.declared.look.Turn as turn
use Rattle.search.specs.declared.look.Turn.{Turn}
use Rattle.search.specs.declared.sight.Sight.{Sight}
use Rattle.search.specs.declared.sight.Sight.TheVariants.{Good, Bad, Passed}

module _ {X V : Type 0} (holds : X → V → Type 0) where
  -- a good entry that shares a value with p
  abbrev pub GoodAt : (V → Type 0) → Sight X → Type 0
  GoodAt p (Good y) = Share p (holds y)
  GoodAt p (Bad y) = ⊥
  GoodAt p Passed = ⊥

  -- none of the first n entries that are good shares a value with p
  abbrev pub Clear : List (Sight X) → ℕ → (V → Type 0) → Type 0
  Clear ss n p = Before (GoodAt p) ss n

  abbrev pub NoGood : List (Sight X) → ℕ → X → Type 0
  NoGood ss n x = Clear ss n (holds x)

  -- none of the first n entries holds c
  abbrev pub Unheld : List (Sight X) → ℕ → V → Type 0
  Unheld ss n c = Before (Holds holds c) ss n

  -- e is an entry that cuts x
  abbrev pub Cuts : List (Sight X) → X → X → Type 0
  Cuts ss x e = Memᴰ e (regions_of ss) × Related (holds x) (holds e) Crossing

  -- what was met among the first n entries
  abbrev pub MetSo : List (Sight X) → ℕ → X → V → Met X → Type 0
  MetSo ss n x c met.TheVariants.Nothing = NoGood ss n x × Unheld ss n c
  MetSo ss n x c (met.TheVariants.Good e) = Cuts ss x e × Unheld ss n c
  MetSo ss n x c (met.TheVariants.Bad e) = Cuts ss x e × NoGood ss n x

  -- from position n on, the values of `wide` that no earlier entry decides are decided well, or not
  pub record EndsSo (ss : List (Sight X)) (end : Bool) (n : ℕ) (x wide : X) (c : V) (good : Bool) : Type 0 where
    pub around : Inside (holds x) (holds wide)
    pub found : good ≡ true → Unheld ss n c → WellDecided holds ss end c
    pub barren : good ≡ false → (r : X) → Inside (holds r) (holds wide) → Clear ss n (holds r) → Disjoint (holds r) (WellDecided holds ss end)

  -- what comes of the entry at n
  abbrev pub TurnOf : List (Sight X) → Bool → ℕ → X → V → Met X → Turn X → Type 0
  TurnOf ss end n x c m (turn.TheVariants.On next) = MetSo ss (n + 1) x c next
  TurnOf ss end n x c m turn.TheVariants.Found = WellDecided holds ss end c
  TurnOf ss end n x c m (turn.TheVariants.Cut e) = Cuts ss x e
  TurnOf ss end n x c m (turn.TheVariants.Held e good) = EndsSo ss end n x e c good
