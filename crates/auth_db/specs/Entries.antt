-- Refinement: only contracts inside the crate use it.
-- The entries of the map of users.
use Rattle.std.specs.Prelude.{List, map, String, string_bytes}
use Rattle.std.specs.declared.alloc.Global.{Global}
use Rattle.auth_db.specs.Users.{Users}
use Rattle.auth_db.specs.declared.caps.Caps.{Caps}

abbrev pub Entries : Type 0
Entries = List (String Global × Caps)

abbrev pub users_of : Entries → Users
users_of entries = map (λ e. (string_bytes e.0, e.1)) entries
