-- The limits of a line. Each is said here once.
use Rattle.std.specs.Prelude.{ℕ}

-- bytes of a line
abbrev pub max_line : ℕ
max_line = 200

-- a line's bytes are from the first of these to the last
abbrev pub first_printed : ℕ
first_printed = 32

abbrev pub last_printed : ℕ
last_printed = 126

-- numbers of a line, and protocols
abbrev pub max_number : ℕ
max_number = 65535

abbrev pub max_protocol : ℕ
max_protocol = 255
