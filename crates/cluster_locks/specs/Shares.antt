-- Statement: contracts of public calls use it.
-- How the passes and the monitor of a cluster share the numbers that the turns on a lock may draw.
use Rattle.std.specs.Prelude.{ℕ, zero, suc, ◌+◌, ◌-◌, ◌*◌, ◌/◌, List, [], ◌∷◌, ◌++◌}
use Rattle.turn_lock.specs.Turns.{last_word}

-- the share of each pass, of all numbers of a lock, and what that leaves for the monitor
abbrev pub pass_share : ℕ → ℕ
pass_share passes = last_word / (passes + 1)

abbrev pub monitor_share : ℕ → ℕ
monitor_share passes = last_word - passes * pass_share passes

abbrev pub times : ℕ → ℕ → List ℕ
times zero x = []
times (suc n) x = x ∷ times n x

-- the shares of all passes, and last the monitor's
abbrev pub shares_of : ℕ → List ℕ
shares_of passes = times passes (pass_share passes) ++ monitor_share passes ∷ []
