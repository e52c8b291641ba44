-- How cut regions lie in frames. `plain` gives the row of a region, and `region` reads it.
use Rattle.std.specs.Prelude.{◌≡◌, ℕ, List, Some, None, Option}
use Rattle.std.specs.List.{slice_get}
use Rattle.search.specs.declared.cut.Cut.{Cut}
use Rattle.search.specs.declared.frames.Frame.{Frame}

abbrev pub row_of : {X W : Type 0} → (X → W) → Cut X → Frame W
row_of plain c = record { region = plain c.region; barren = plain c.barren; joint = plain c.joint }

-- a cut region of these parts, if all three are there
abbrev pub cut_with : {X : Type 0} → Option X → Option X → Option X → Option (Cut X)
cut_with None w g = None
cut_with (Some p) None g = None
cut_with (Some p) (Some w) None = None
cut_with (Some p) (Some w) (Some g) = Some (record { region = p; barren = w; joint = g })

abbrev pub cut_of : {X W : Type 0} → (W → Option X) → Frame W → Option (Cut X)
cut_of region f = cut_with (region f.region) (region f.barren) (region f.joint)

-- c is the cut region of the frame at n
abbrev pub IsKeptAt : {X W : Type 0} → (W → Option X) → List (Frame W) → ℕ → Cut X → Type 0
IsKeptAt {X} {W} region fs n c = (f : Frame W) × (slice_get fs n ≡ Some f) × (cut_of region f ≡ Some c)

-- the frame at n is that of a cut region
abbrev pub KeptAt : {X W : Type 0} → (W → Option X) → List (Frame W) → ℕ → Type 0
KeptAt {X} region fs n = (c : Cut X) × IsKeptAt region fs n c
