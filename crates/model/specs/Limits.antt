-- The limits of a register. Each is said here once.
use Rattle.std.specs.Prelude.{ℕ}

-- rules in all, and rows that the table of rules must have
abbrev pub max_rules : ℕ
max_rules = 512

-- rules in one list
abbrev pub max_list : ℕ
max_list = 128

abbrev pub max_blocks : ℕ
max_blocks = 128

abbrev pub max_properties : ℕ
max_properties = 64

-- domains, domain 0 among them
abbrev pub max_domains : ℕ
max_domains = 64

-- frames that the search of a list, and that of the blocks, must have
abbrev pub min_packet_frames : ℕ
min_packet_frames = 129

abbrev pub min_address_frames : ℕ
min_address_frames = 129

-- interfaces are numbered below this
abbrev pub max_interfaces : ℕ
max_interfaces = 32
