-- Statement: contracts of public calls use it.
-- Up to where an asker has the same entries as a log.
use Rattle.std.specs.Prelude.{ℕ, ◌-◌, Bool, true, false, ◌==◌, ◌||◌, ◌&&◌, nat_le, min, List, length, take, Option, Some, None, if◌then◌else◌}
use Rattle.entry_core.specs.Fitting.{last_id}
use Rattle.store_core.specs.declared.entry.Entry.{Entry}

abbrev pub same_id : Option ℕ → Option ℕ → Bool
same_id None None = true
same_id None (Some y) = false
same_id (Some x) None = false
same_id (Some x) (Some y) = x == y

-- the asker's log of that length, whose last number is this, begins this log
abbrev pub agrees_at : List Entry → ℕ → Option ℕ → Bool
agrees_at log len end = nat_le len (length log) && ((len == 0) || same_id (last_id (take len log)) end)

-- up to where the asker has the same: all its log, or else all but the last place that both have
abbrev pub start_for : List Entry → ℕ → Option ℕ → ℕ
start_for log len end = if agrees_at log len end then len else min len (length log) - 1
