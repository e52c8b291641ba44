-- What is answered to a question.
use Rattle.std.specs.Prelude.{◌≡◌, ℕ, ◌≤◌, List, length, Some, None, Ok, Err, Option, Result, MatchOption}
use Rattle.search.specs.Answer.{Witness}
use Rattle.search.specs.First.{First, Nowhere}
use Rattle.search.specs.List.{row_holds}
use Rattle.search.specs.Answer.{Hopeless}
use Rattle.search.specs.declared.answer.Found.{Found}
use Rattle.search.specs.declared.list.Entry.{Entry}
use Rattle.search.specs.declared.list.Wish.{Wish}
use Rattle.list_audit.specs.declared.audit.Mistake.{Mistake}
use Rattle.list_audit.specs.declared.audit.Mistake.TheVariants.{NoRegion, NoRule, FewFrames}

-- `target` is the row that the question is about. Broken: a value that it holds, with a match as wished against; kept: it
-- holds none; no answer: no region has the row, or the frames are too few
abbrev pub Asked : {X V W : Type 0} → (X → V → Type 0) → (W → Option X) → List (Entry W) → W → Wish → ℕ → Result (Option (Found V)) Mistake → Type 0
Asked holds region es target wish frames (Ok None) = Hopeless (row_holds holds region) es wish (row_holds holds region target)
Asked holds region es target wish frames (Ok (Some f)) = Witness (row_holds holds region) es (row_holds holds region target) wish f
Asked holds region es target wish frames (Err NoRegion) = region target ≡ None
Asked holds region es target wish frames (Err FewFrames) = frames ≤ length es
Asked holds region es target wish frames (Err (NoRule p)) = ⊥

-- an entry whose row no region has
abbrev pub Unread : {X W : Type 0} → (W → Option X) → Entry W → Type 0
Unread region e = region e.row ≡ None

-- no entry of a list is such, or the position of the first that is
abbrev pub FirstUnread : {X W : Type 0} → (W → Option X) → List (Entry W) → Option ℕ → Type 0
FirstUnread {X} {W} region es r = MatchOption r (Nowhere (Unread region) es) (λ p. (e : Entry W) × First (Unread region) es p e)

-- the length of a list without such an entry, or the position of the first
abbrev pub ReadAll : {X W : Type 0} → (W → Option X) → List (Entry W) → Result ℕ Mistake → Type 0
ReadAll region es (Ok n) = (n ≡ length es) × Nowhere (Unread region) es
ReadAll {X} {W} region es (Err (NoRule p)) = (e : Entry W) × First (Unread region) es p e
ReadAll region es (Err NoRegion) = ⊥
ReadAll region es (Err FewFrames) = ⊥
