-- What give and take do, and what their checks say of the blocks.
use Rattle.std.specs.Prelude.{◌≡◌, ℕ, List, Ok, Err, Result}
use Rattle.search.specs.First.{First, Nowhere}
use Rattle.model.specs.Refusals.{SomeAstray, Misplaces}
use Rattle.model.specs.Tree.{Tree, Block}
use Rattle.model.specs.declared.answers.Refusal.{Refusal}
use Rattle.model.specs.declared.answers.Refusal.TheVariants.{Overlap, Misplaced}
use Rattle.verdicts.specs.Overlap.{Shares}

-- 6: the first block that shares an address with the region is shown, or none does
abbrev pub ApartFrom : {A V W X : Type 0} → (A → V → Type 0) → List (Block A) → A → Result X (Refusal V W) → Type 0
ApartFrom addr bs x (Ok u) = Nowhere (Shares addr x) bs
ApartFrom {A} addr bs x (Err q) = (k : ℕ) × (b : Block A) × (q ≡ Overlap k) × First (Shares addr x) bs k b

-- 11: the first property that the tree misplaces is shown, or it misplaces none
abbrev pub AllPlaced : {A R V W X : Type 0} → (A → V → Type 0) → (R → W → Type 0) → Tree A R → Result X (Refusal V W) → Type 0
AllPlaced addr rests t (Ok u) = Nowhere (SomeAstray addr rests t) t.properties
AllPlaced {V = V} addr rests t (Err q) = (n : ℕ) × (a : V) × (q ≡ Misplaced n a) × Misplaces addr rests t n a
