use Rattle.std.proofs.Common.{◌≡◌, ◌+◌, ◌*◌, ◌≤◌, length, drop, reverse}
use Rattle.grant_core.specs.Flat.{flat, numbered, parts_of}
use Rattle.grant_core.specs.Table.{table_of}
use Rattle.grant_core.proofs.table.size_of.Given as goal

abbrev pub invariant-loop-grant : goal.invariant-loop-grant
invariant-loop-grant l =
    (l.size + length (numbered (parts_of (reverse (table_of l.profiles.entries))) (1 + l.grant-index) (drop l.grant-index l.grants)) ≡ length (flat (table_of l.profiles.entries) l.grants))
    × (l.size ≤ 256 * l.grant-index)
