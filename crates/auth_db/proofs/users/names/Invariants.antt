use Rattle.std.proofs.Common.{◌≡◌, ◌++◌, map, string_bytes}
use Rattle.std.specs.Map.{keys_of}
use Rattle.auth_db.proofs.users.names.Given as goal

abbrev pub invariant-loop-name : goal.invariant-loop-name
invariant-loop-name l = l.names.items ++ map string_bytes l.name-iterator ≡ map string_bytes (keys_of l.users.entries)
