-- Statement: contracts of public calls use it.
-- The numbers of the answers, as `include/sigmuyap.h` names them. Source: this project's profile.
use Rattle.std.specs.Prelude.{ℕ}

abbrev pub ok : ℕ
ok = 0

abbrev pub deny : ℕ
deny = 0

abbrev pub allow : ℕ
allow = 1

abbrev pub not_wider : ℕ
not_wider = 0

abbrev pub wider : ℕ
wider = 1

-- the handle holds no ticket
abbrev pub empty : ℕ
empty = 2

-- a text or a name is not UTF-8
abbrev pub not_utf8 : ℕ
not_utf8 = 3

-- an allocation failed
abbrev pub no_memory : ℕ
no_memory = 4

-- the capability text has a fault
abbrev pub refused : ℕ
refused = 5

-- these rules are not known
abbrev pub bad_rules : ℕ
bad_rules = 6

-- two slices differ in length
abbrev pub bad_length : ℕ
bad_length = 7

-- no address is given, and the answer is not the same at all addresses
abbrev pub depends : ℕ
depends = 8

-- the text of an address writes none
abbrev pub bad_address : ℕ
bad_address = 9
