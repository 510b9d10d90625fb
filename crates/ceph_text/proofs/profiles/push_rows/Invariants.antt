use Rattle.std.proofs.Common.{◌≡◌, ◌+◌, ◌++◌, map, drop}
use Rattle.ceph_text.specs.Profiles.{entries_of_rows}
use Rattle.ceph_text.specs.Rows.{row_of}
use Rattle.ceph_text.proofs.profiles.push_rows.Given as goal

abbrev pub invariant-loop-row : goal.invariant-loop-row
invariant-loop-row l =
    (l.part ≡ l.row-index) × (l.out.items ++ entries_of_rows l.number l.network l.used (l.part + 1) (map row_of (drop l.row-index l.rows)) ≡ l.fn.out.items ++ entries_of_rows l.number l.network l.used 1 (map row_of l.rows))
