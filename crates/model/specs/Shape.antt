-- The tree: which node hangs where, and the way from one domain to another.
-- Domain 0 is what lies outside. A firewall hangs below a domain, and each domain but 0 below a firewall.
use Rattle.std.specs.Prelude.{◌≡◌, ℕ, suc, ◌<◌, ◌≤◌, ◌⊎◌, List, [], ◌∷◌, ◌++◌, map, length, Some, ◌≢◌}
use Rattle.std.specs.List.{slice_get}
use Rattle.model.specs.Limits.{max_interfaces}
use Rattle.model.specs.declared.path.Hop.{Hop}
use Rattle.model.specs.declared.path.Uplink.{Uplink}

pub record Shape : Type 0 where
  -- where firewall f hangs, for each f
  pub firewalls : List Uplink
  -- where domain k + 1 hangs, for each k
  pub domains : List Uplink

-- there is a domain d, a firewall f
abbrev pub Domain : Shape → ℕ → Type 0
Domain s d = d ≤ length s.domains

abbrev pub Firewall : Shape → ℕ → Type 0
Firewall s f = f < length s.firewalls

-- firewall f hangs below domain d, by its upper interface i
abbrev pub Hangs : Shape → ℕ → ℕ → ℕ → Type 0
Hangs s f d i = slice_get s.firewalls f ≡ Some (record { node = d; interface = i })

-- domain d lies below firewall f, by f's interface i
abbrev pub Lies : Shape → ℕ → ℕ → ℕ → Type 0
Lies s d f i = (k : ℕ) × (d ≡ suc k) × (slice_get s.domains k ≡ Some (record { node = f; interface = i }))

-- domain d is joined to firewall f by f's interface i, from above or from below
abbrev pub Joined : Shape → ℕ → ℕ → ℕ → Type 0
Joined s f d i = Hangs s f d i ⊎ Lies s d f i

-- a walk from u to v: each hop goes from a domain through a firewall that it is joined to, to a domain joined to that
abbrev pub Walk : Shape → ℕ → List Hop → ℕ → Type 0
Walk s u [] v = u ≡ v
Walk s u (h ∷ hs) v = Joined s h.firewall u h.entered × Joined s h.firewall h.reached h.left × Walk s h.reached hs v

abbrev pub Absent : ℕ → List ℕ → Type 0
Absent x [] = Unit {0}
Absent x (y ∷ ys) = (x ≢ y) × Absent x ys

abbrev pub Distinct : List ℕ → Type 0
Distinct [] = Unit {0}
Distinct (x ∷ xs) = Absent x xs × Distinct xs

abbrev pub firewalls_on : List Hop → List ℕ
firewalls_on = map (λ (h : Hop). h.firewall)

abbrev pub domains_on : List Hop → List ℕ
domains_on = map (λ (h : Hop). h.reached)

-- the route from u to v: the walk that passes no domain and no firewall twice
pub record Route (s : Shape) (u v : ℕ) (hs : List Hop) : Type 0 where
  pub walk : Walk s u hs v
  pub firewalls_once : Distinct (firewalls_on hs)
  pub domains_once : Distinct (u ∷ domains_on hs)

-- domain 0 has depth 0, any other one more than the domain above its firewall
pub data Depth (s : Shape) : ℕ → ℕ → Type 0 where
  top : {d n : ℕ} → d ≡ 0 → n ≡ 0 → Depth s d n
  under : {d n f i c j m : ℕ} → Lies s d f i → Hangs s f c j → Depth s c m → n ≡ suc m → Depth s d n

-- what every tree is that calls make: what hangs, hangs below something made before it, and an interface leads to one domain
pub record Sound (s : Shape) : Type 0 where
  pub hangs : (f d i : ℕ) → Hangs s f d i → Domain s d
  pub falls : (d f i : ℕ) → Lies s d f i → (c : ℕ) × (j : ℕ) × Hangs s f c j × (c < d)
  pub one : (f d e i : ℕ) → Joined s f d i → Joined s f e i → d ≡ e
  pub low : (f d i : ℕ) → Joined s f d i → i < max_interfaces

-- the way back: the hops in reverse, entered by the interface that was left by, to the domains before
abbrev pub back : ℕ → List Hop → List Hop
back u [] = []
back u (h ∷ hs) = back h.reached hs ++ (record { firewall = h.firewall; entered = h.left; left = h.entered; reached = u } ∷ [])

-- domain 0 alone
abbrev pub bare : Shape
bare = record { firewalls = []; domains = [] }

-- a further firewall, below domain d by its upper interface i, and a further domain below it by j
abbrev pub attached : Shape → ℕ → ℕ → ℕ → Shape
attached s d i j = record {
  firewalls = s.firewalls ++ (record { node = d; interface = i } ∷ []);
  domains = s.domains ++ (record { node = length s.firewalls; interface = j } ∷ []);
}

-- the next domain below firewall f by its interface i
abbrev pub branched : Shape → ℕ → ℕ → Shape
branched s f i = record { firewalls = s.firewalls; domains = s.domains ++ (record { node = f; interface = i } ∷ []) }
