-- What the rows of a tree table keep.
use Rattle.std.specs.Prelude.{◌≡◌, ℕ, ◌<◌, ◌≤◌, List, ◌≢◌, slice_index_or}
use Rattle.model.specs.Limits.{max_interfaces}
use Rattle.model.specs.declared.path.Uplink.{Uplink}

abbrev pub no_uplink : Uplink
no_uplink = record { node = 0; interface = 0 }

-- what stands in row k: the node above, and the interface
abbrev pub node_at : List Uplink → ℕ → ℕ
node_at us k = (slice_index_or us k no_uplink).node

abbrev pub interface_at : List Uplink → ℕ → ℕ
interface_at us k = (slice_index_or us k no_uplink).interface

-- each of the first count rows has an interface that there is
abbrev pub Low : List Uplink → ℕ → Type 0
Low us count = (k : ℕ) → k < count → interface_at us k < max_interfaces

-- each firewall hangs below a domain that there is
abbrev pub Hung : List Uplink → ℕ → ℕ → Type 0
Hung firewalls count domains = (f : ℕ) → f < count → node_at firewalls f ≤ domains

-- each domain lies below a firewall that there is
abbrev pub Below : List Uplink → ℕ → ℕ → Type 0
Below domains count firewalls = (k : ℕ) → k < count → node_at domains k < firewalls

-- the domain above the firewall of domain k + 1 is at most k
abbrev pub Falling : List Uplink → List Uplink → ℕ → Type 0
Falling firewalls domains count = (k : ℕ) → k < count → node_at firewalls (node_at domains k) ≤ k

-- no two domains lie below one firewall by one interface
abbrev pub Single : List Uplink → ℕ → Type 0
Single domains count = (k m : ℕ) → (k < m) × (m < count) × (node_at domains k ≡ node_at domains m) × (interface_at domains k ≡ interface_at domains m) → ⊥

-- no domain lies below a firewall by its upper interface
abbrev pub Lower : List Uplink → List Uplink → ℕ → Type 0
Lower firewalls domains count = (k : ℕ) → k < count → interface_at domains k ≢ interface_at firewalls (node_at domains k)
