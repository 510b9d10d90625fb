use Rattle.std.proofs.Common.{◌≡◌, ◌+◌, ◌++◌, ◌≤◌, length, drop}
use Rattle.ceph_text.specs.Profiles.{flat_from}
use Rattle.ceph_text.proofs.profiles.expand_ceph.Given as goal

abbrev pub invariant-loop-grant : goal.invariant-loop-grant
invariant-loop-grant l =
    (l.number ≡ l.grant-index) × (l.entries.items ++ flat_from (l.number + 1) (drop l.grant-index l.grants) ≡ flat_from 1 l.grants) × (length l.entries.items ≤ 16384)
