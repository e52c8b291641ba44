-- The calls that build a tree again, in the order of its listing.
use Rattle.std.specs.Prelude.{ℕ, suc, ◌==◌, ◌||◌, Bool, false, List, [], ◌∷◌, ◌++◌, map, if◌then◌else◌}
use Rattle.std.specs.List.{slice_get}
use Rattle.std.specs.Option.{unwrap_or}
use Rattle.model.specs.Shape.{Shape}
use Rattle.model.specs.Tree.{Tree, Block}
use Rattle.model.specs.declared.calls.Call.{Call}
use Rattle.model.specs.declared.calls.Call.TheVariants.{Attach, Branch, Give, Place, Alter, Stand}
use Rattle.model.specs.declared.path.Uplink.{Uplink}
use Rattle.model.specs.declared.rules.Decision.TheVariants.{Discard}
use Rattle.model.specs.declared.rules.Property.{Property}
use Rattle.model.specs.declared.rules.Rule.{Rule}

-- one of these domains lies below firewall f
abbrev pub some_below : List Uplink → ℕ → Bool
some_below [] f = false
some_below (u ∷ us) f = (u.node == f) || some_below us f

-- where firewall f hangs
abbrev pub hook : Shape → ℕ → Uplink
hook s f = unwrap_or (slice_get s.firewalls f) (record { node = 0; interface = 0 })

-- a domain that is the first below its firewall comes with the firewall, which discards for now; any other is a branch of it
abbrev pub domain_call : {A R V W : Type 0} → Shape → List Uplink → Uplink → Call A R V W
domain_call s before u = if some_below before u.node then Branch u.node u.interface else Attach (hook s u.node).node (hook s u.node).interface u.interface Discard

-- the domains `later`, where those before them are `before`
abbrev pub domain_calls : {A R V W : Type 0} → Shape → List Uplink → List Uplink → List (Call A R V W)
domain_calls s before [] = []
domain_calls s before (u ∷ later) = domain_call s before u ∷ domain_calls s (before ++ (u ∷ [])) later

abbrev pub block_call : {A R V W : Type 0} → Block A → Call A R V W
block_call b = Give b.domain b.region

-- the rule at position p of firewall f, with those behind it: the last takes the place of the rule that the list began with
abbrev pub rule_call : {A R V W : Type 0} → ℕ → ℕ → Rule A R → List (Rule A R) → Call A R V W
rule_call f p r [] = Alter f p r
rule_call f p r (q ∷ behind) = Place f p r

-- the rules of firewall f from position p on
abbrev pub rule_calls : {A R V W : Type 0} → ℕ → ℕ → List (Rule A R) → List (Call A R V W)
rule_calls f p [] = []
rule_calls f p (r ∷ behind) = rule_call f p r behind ∷ rule_calls f (suc p) behind

-- the lists of the firewalls from f on
abbrev pub list_calls : {A R V W : Type 0} → ℕ → List (List (Rule A R)) → List (Call A R V W)
list_calls f [] = []
list_calls f (l ∷ ls) = rule_calls f 0 l ++ list_calls (suc f) ls

abbrev pub property_call : {A R V W : Type 0} → Property A R → Call A R V W
property_call p = Stand p

-- domains from 1 up, blocks, each firewall's rules, properties
abbrev pub listing : {A R V W : Type 0} → Tree A R → List (Call A R V W)
listing t = domain_calls t.shape [] t.shape.domains ++ (map block_call t.blocks ++ (list_calls 0 t.lists ++ map property_call t.properties))
