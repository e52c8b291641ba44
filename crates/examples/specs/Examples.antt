-- Worked examples of the meanings, in one table.
use Rattle.std.specs.Prelude.{◌≡◌, ℕ, ◌+◌, ◌-◌, ◌*◌, ◌%◌, ◌^◌, T, List, [], ◌∷◌, Some, None, Option, nat_le, nat_lt, refl}
use Rattle.std.proofs.Common.{leb→le, ltb→lt}
use Rattle.kinds.specs.Words.{Exactly, MeetOf, SplitOf}
use Rattle.forms.specs.Range.{range_holds, range_of}
use Rattle.forms.specs.Prefix.{prefix_holds}
use Rattle.kinds.specs.Set.{set_holds}
use Rattle.forms.specs.declared.range.Range.{Range}
use Rattle.forms.specs.declared.range.RangeRow.{RangeRow}
use Rattle.forms.specs.declared.prefix.Prefix.{Prefix}
use Rattle.kinds.specs.declared.set.Set.{Set}
use Rattle.model.specs.Properties.{Of}
use Rattle.model.specs.Shape.{Shape, Route, bare, attached, branched}
use Rattle.model.specs.Tree.{Tree, start, after}
use Rattle.model.specs.declared.calls.Call.TheVariants.{Attach, Give}
use Rattle.model.specs.declared.rules.Decision.TheVariants.{Discard}
use Rattle.search.specs.List.{row_holds, Says}
use Rattle.search.specs.declared.list.Entry.{Entry}

-- the range from lo to hi
abbrev pub range : (lo hi : ℕ) → T (nat_le lo hi) → Range
range lo hi h = record { lo = lo; hi = hi; ordered = leb→le lo hi h }

-- the address a.b.c.d
abbrev pub ip : ℕ → ℕ → ℕ → ℕ → ℕ
ip a b c d = ((a * 256 + b) * 256 + c) * 256 + d

abbrev pub prefix : (address length : ℕ) → T (nat_le length 32) → address % 2 ^ (32 - length) ≡ 0 → Prefix
prefix address length h e = record { address = address; length = length; short = leb→le length 32 h; clean = e }

abbrev pub mask : (m : ℕ) → T (nat_lt 0 m) → T (nat_lt m (2 ^ 32)) → Set
mask m h k = record { mask = m; some = ltb→lt 0 m h; few = ltb→lt m (2 ^ 32) k }

-- any answer that meet may give on a and b is a region with exactly the values of c
abbrev pub MeetIn : {X V : Type 0} → (X → V → Type 0) → X → X → X → Type 0
MeetIn {X} holds a b c = (r : Option X) → MeetOf holds (holds a) (holds b) r → (m : X) × (r ≡ Some m) × Exactly (holds m) (holds c)

-- any answer that meet, or split, may give on a and b is nothing
abbrev pub MeetNowhere : {X V : Type 0} → (X → V → Type 0) → X → X → Type 0
MeetNowhere {X} holds a b = (r : Option X) → MeetOf holds (holds a) (holds b) r → r ≡ None

abbrev pub SplitNowhere : {X V : Type 0} → (X → V → Type 0) → X → X → Type 0
SplitNowhere {X} holds a b = (r : Option (X × X)) → SplitOf holds (holds a) (holds b) r → r ≡ None

-- source 20-30 accept (1), all else discard (0)
abbrev pub two_rules : List (Entry RangeRow)
two_rules = record { row = record { lo = 20; hi = 30 }; outcome = 1 } ∷ (record { row = record { lo = 0; hi = 1000 }; outcome = 0 } ∷ [])

abbrev pub range_rows : RangeRow → ℕ → Type 0
range_rows = row_holds range_holds (λ (w : RangeRow). range_of w.lo w.hi)

-- two firewalls in a row, each joined by 0 above and by 1 below, and a branch of the first by interface 2
abbrev pub two_branches : Shape
two_branches = branched (attached (attached bare 0 0 1) 1 0 1) 0 2

-- the Long form's addresses; domain 1, below firewall 0, has the block 10.0.0.0/8
abbrev pub one_block : Tree Prefix Range
one_block = after {V = ℕ} {W = ℕ} (after {V = ℕ} {W = ℕ} (start (prefix 0 0 tt refl) (range 0 255 tt)) (Attach 0 0 1 Discard)) (Give 1 (prefix (ip 10 0 0 0) 8 tt refl))

pub record Examples : Type 0 where
  -- ranges that have one number in common
  pub touching : MeetIn range_holds (range 3 9 tt) (range 9 12 tt) (range 9 9 tt)
  -- ranges side by side have none
  pub neighbours : MeetNowhere range_holds (range 3 9 tt) (range 10 12 tt)
  -- a range inside another is not split by it
  pub nested : SplitNowhere range_holds (range 5 6 tt) (range 3 9 tt)
  -- of two nested prefixes the longer is what they have in common
  pub longer : MeetIn prefix_holds (prefix (ip 10 0 0 0) 8 tt refl) (prefix (ip 10 1 0 0) 16 tt refl) (prefix (ip 10 1 0 0) 16 tt refl)
  -- masks that have bit 2 in common
  pub masks : MeetIn set_holds (mask 5 tt tt) (mask 6 tt tt) (mask 4 tt tt)
  -- the list accepts 30 at its first rule and discards 31 at its second
  pub accepted : Says range_rows two_rules 30 (Some (record { position = 0; outcome = 1 }))
  pub discarded : Says range_rows two_rules 31 (Some (record { position = 1; outcome = 0 }))
  -- the last address of a block, and the first one behind it
  pub inside_block : Of prefix_holds range_holds one_block (ip 10 255 255 255) 1
  pub outside_block : Of prefix_holds range_holds one_block (ip 11 0 0 0) 0
  -- up through one firewall and down through another, each entered by its interface 1
  pub across : Route two_branches 2 3 (record { firewall = 1; entered = 1; left = 0; reached = 1 } ∷ (record { firewall = 0; entered = 1; left = 2; reached = 3 } ∷ []))
