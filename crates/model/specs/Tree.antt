-- The plain tree: what a register stands for.
use Rattle.std.specs.Prelude.{ℕ, ◌+◌, ◌-◌, ◌^◌, List, [], ◌∷◌, ◌++◌, length, slice_set}
use Rattle.std.proofs.Common.{ltb→lt}
use Rattle.std.specs.List.{slice_get, insert, remove}
use Rattle.std.specs.Option.{unwrap_or}
use Rattle.kinds.specs.declared.set.Set.{Set}
use Rattle.model.specs.Limits.{max_interfaces}
use Rattle.model.specs.Shape.{Shape, bare, attached, branched}
use Rattle.model.specs.declared.calls.Call.{Call}
use Rattle.model.specs.declared.calls.Call.TheVariants.{Attach, Branch, Give, Take, Place, Alter, Lift, Stand, Withdraw, Ask, Send}
use Rattle.model.specs.declared.rules.Decision.{Decision}
use Rattle.model.specs.declared.rules.Property.{Property}
use Rattle.model.specs.declared.rules.Rule.{Rule}

-- a region of addresses, given to a domain
pub record Block (A : Type 0) : Type 0 where
  pub region : A
  pub domain : ℕ

pub record Tree (A R : Type 0) : Type 0 where
  -- the whole region of addresses, and that of rests
  pub addresses : A
  pub rests : R
  -- which node hangs where
  pub shape : Shape
  -- each firewall's list of rules, by its number
  pub lists : List (List (Rule A R))
  pub blocks : List (Block A)
  -- the properties that stand
  pub properties : List (Property A R)

-- the list of firewall f
abbrev pub rules_of : {A R : Type 0} → Tree A R → ℕ → List (Rule A R)
rules_of t f = unwrap_or (slice_get t.lists f) []

-- how many rules there are in some lists
abbrev pub count_rules : {A R : Type 0} → List (List (Rule A R)) → ℕ
count_rules [] = 0
count_rules (l ∷ ls) = length l + count_rules ls

-- the wholes and domain 0 alone
abbrev pub start : {A R : Type 0} → A → R → Tree A R
start a r = record { addresses = a; rests = r; shape = bare; lists = []; blocks = []; properties = [] }

-- all of 0 to 31
abbrev pub all_interfaces : Set
all_interfaces = record { mask = 2 ^ max_interfaces - 1; some = ltb→lt 0 (2 ^ max_interfaces - 1) tt; few = ltb→lt (2 ^ max_interfaces - 1) (2 ^ 32) tt }

-- every packet, on every interface
abbrev pub whole_rule : {A R : Type 0} → Tree A R → Decision → Rule A R
whole_rule t w = record { interfaces = all_interfaces; source = t.addresses; destination = t.addresses; rest = t.rests; decision = w }

abbrev pub with_shape : {A R : Type 0} → Tree A R → Shape → Tree A R
with_shape t s = record { addresses = t.addresses; rests = t.rests; shape = s; lists = t.lists; blocks = t.blocks; properties = t.properties }

abbrev pub with_lists : {A R : Type 0} → Tree A R → List (List (Rule A R)) → Tree A R
with_lists t ls = record { addresses = t.addresses; rests = t.rests; shape = t.shape; lists = ls; blocks = t.blocks; properties = t.properties }

abbrev pub with_blocks : {A R : Type 0} → Tree A R → List (Block A) → Tree A R
with_blocks t bs = record { addresses = t.addresses; rests = t.rests; shape = t.shape; lists = t.lists; blocks = bs; properties = t.properties }

abbrev pub with_properties : {A R : Type 0} → Tree A R → List (Property A R) → Tree A R
with_properties t ps = record { addresses = t.addresses; rests = t.rests; shape = t.shape; lists = t.lists; blocks = t.blocks; properties = ps }

-- firewall f has the list l
abbrev pub with_rules : {A R : Type 0} → Tree A R → ℕ → List (Rule A R) → Tree A R
with_rules t f l = with_lists t (slice_set t.lists f l)

-- what a call that is not refused makes of the tree
abbrev pub after : {A R V W : Type 0} → Tree A R → Call A R V W → Tree A R
-- the next firewall below the domain, with one rule for everything, and the next domain below that
after t (Attach d i j w) = with_lists (with_shape t (attached t.shape d i j)) (t.lists ++ ((whole_rule t w ∷ []) ∷ []))
after t (Branch f i) = with_shape t (branched t.shape f i)
after t (Give d x) = with_blocks t (t.blocks ++ (record { region = x; domain = d } ∷ []))
after t (Take b) = with_blocks t (remove t.blocks b)
after t (Place f p r) = with_rules t f (insert (rules_of t f) p r)
after t (Alter f p r) = with_rules t f (slice_set (rules_of t f) p r)
after t (Lift f p) = with_rules t f (remove (rules_of t f) p)
after t (Stand p) = with_properties t (t.properties ++ (p ∷ []))
after t (Withdraw n) = with_properties t (remove t.properties n)
after t (Ask p) = t
after t (Send h) = t
