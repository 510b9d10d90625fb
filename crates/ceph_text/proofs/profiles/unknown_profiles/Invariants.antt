use Rattle.std.proofs.Common.{◌≡◌, ◌+◌, ◌++◌, drop}
use Rattle.ceph_text.specs.Profiles.{unknown_from}
use Rattle.ceph_text.proofs.profiles.unknown_profiles.Given as goal

abbrev pub invariant-loop-grant : goal.invariant-loop-grant
invariant-loop-grant l =
    (l.number ≡ l.grant-index) × (l.numbers.items ++ unknown_from (l.number + 1) (drop l.grant-index l.grants) ≡ unknown_from 1 l.grants)
