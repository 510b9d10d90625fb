use Rattle.std.proofs.Common.{refl}
use Rattle.std.proofs.lemmas.List.Sorted.{IsNonDecreasingBy-from_sort}
use Rattle.stopwatch.proofs.measure.least_and_middle.Goals as goal

pub returns : goal.returns
returns c =
    let sorted = c.sort_unstable.new.self in
    (sorted, c.sort_unstable.ensures.permutation, IsNonDecreasingBy-from_sort (λ n. n) sorted c.sort_unstable.ensures.sorted, refl, refl)
