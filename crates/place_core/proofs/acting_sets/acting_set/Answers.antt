use Rattle.std.proofs.Common.{arith, ◌≡◌, ◌≤◌, length, take, length-take, true}
use Rattle.place_core.specs.Distinct.{is_distinct}
use Rattle.place_core.proofs.Ranks.{acting_differs}
use Rattle.place_core.proofs.Distinct.{distinct-from_pairs, no_falsehood}
use Rattle.place_core.proofs.acting_sets.acting_set.Goals as goal

pub unreachable-requires : goal.unreachable-requires
unreachable-requires c =
    let few : length (take c.ranked-count.result c.ranked-count.new.members) ≤ 5 = omega (arith, length-take c.ranked-count.result c.ranked-count.new.members, c.ranked-count.ensures.cut, c.min.ensures) in
    let once : is_distinct (take c.ranked-count.result c.ranked-count.new.members) ≡ true = distinct-from_pairs _ (acting_differs _ _ _ _ _ c.ranked-count.ensures.acting) in
    no_falsehood (c.in-None.ensures.sets.1 (few, once))

pub returns-clause-distinct : goal.returns-clause-distinct
returns-clause-distinct c = rw c.in-Some.ensures.value (acting_differs _ _ _ _ _ c.ranked-count.ensures.acting)
