-- Two regions side by side.
use Rattle.std.specs.Prelude.{Some, None, Option}
use Rattle.kinds.specs.declared.pair.Pair.{Pair}

-- two values, each held by its own side
abbrev pub pair_holds : {X Y V W : Type 0} → (X → V → Type 0) → (Y → W → Type 0) → Pair X Y → Pair V W → Type 0
pair_holds p q x v = p x.left v.left × q x.right v.right

-- the pair of two parts, if both are there
abbrev pub both : {X Y : Type 0} → Option X → Option Y → Option (Pair X Y)
both None y = None
both (Some x) None = None
both (Some x) (Some y) = Some (record { left = x; right = y })
