use Rattle.std.proofs.Common.{nat_lt, false, rules}
use Rattle.std.proofs.lemmas.List.FromFn.{fill_by_all}
use Rattle.place_core.proofs.daemons.DaemonSet.first.Goals as goal

pub returns : goal.returns
returns c = fill_by_all (λ k. nat_lt k c.args.count) c.loop-number.flags 16 false c.loop-number.invariant.0 (search rules)
