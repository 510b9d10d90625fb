use Rattle.std.proofs.Common.{◌≡◌, ℕ, ◌<◌, false, length, get_or, nat_lt}
use Rattle.place_core.proofs.daemons.DaemonSet.first.Given as goal

abbrev pub invariant-loop-number : goal.invariant-loop-number
invariant-loop-number l = (length l.flags ≡ 16) × ((k : ℕ) → k < l.number → get_or l.flags k false ≡ nat_lt k l.count)
