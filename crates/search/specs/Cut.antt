-- Regions that were cut, and what becomes of them. A region is given here by what it holds.
use Rattle.std.specs.Prelude.{◌≡◌, ◌⊎◌}
use Rattle.kinds.specs.Words.{Inside, Disjoint, Share, Common, Covered}
use Rattle.search.specs.declared.cut.Cut.{Cut}
use Rattle.search.specs.declared.cut.Parts as parts
use Rattle.search.specs.declared.cut.Settled as settled

-- g is a, which shares a value with w, and b, which does not
pub record Kept {V : Type 0} (g w a b : V → Type 0) : Type 0 where
  pub first : Inside a g
  pub second : Inside b g
  pub all : (v : V) → g v → a v ⊎ b v
  pub apart : Disjoint a b
  pub share : Share a w
  pub clear : Disjoint b w

-- a part x of p apart from w, and g, which joins x to all of p that w holds
pub record Parting {V : Type 0} (p w g x : V → Type 0) : Type 0 where
  pub part : Inside x g
  pub within : Inside g p
  pub covered : Covered g x w
  pub joint : (v : V) → p v → w v → g v
  pub apart : Disjoint x w

abbrev pub PartsOf : {X V : Type 0} → (X → V → Type 0) → (V → Type 0) → (V → Type 0) → parts.Parts X → Type 0
PartsOf holds p w r = Parting p w (holds r.joint) (holds r.part)

-- s lies around g, inside r where r does so already, and else inside r and w together
pub record Learned {V : Type 0} (g r w s : V → Type 0) : Type 0 where
  pub around : Inside g s
  pub within : Covered s r w
  pub known : Inside g r → Inside s r

-- what is learned of the cut c when r, with w, holds all that is joined: the region lies in it; or a part of that is
-- still to be looked at
abbrev pub SettledAs : {X V : Type 0} → (X → V → Type 0) → Cut X → (V → Type 0) → settled.Settled X → Type 0
SettledAs holds c r (settled.TheVariants.Whole s) = Learned (holds c.joint) r (holds c.barren) (holds s) × Inside (holds c.region) (holds s)
SettledAs holds c r (settled.TheVariants.Rest d x) =
    (d.region ≡ c.region) × Learned (holds c.joint) r (holds c.barren) (holds d.barren) × Parting (holds c.region) (holds d.barren) (holds d.joint) (holds x)

-- p cut along e: what they have in common is looked at first
pub record Begun {X V : Type 0} (holds : X → V → Type 0) (p : X) (e : V → Type 0) (c : Cut X) : Type 0 where
  pub region : c.region ≡ p
  pub same : c.barren ≡ c.joint
  pub common : Common (holds p) e (holds c.joint)
