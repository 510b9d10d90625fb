-- Statement: contracts of public calls use it.
-- The part of a log that is sent, and the log that another one becomes when it is fitted to such a part.
-- Source: this project's profile, after the exchange of logs in Ceph's peering.
use Rattle.std.specs.Prelude.{ℕ, suc, ◌+◌, ◌-◌, Bool, true, ◌&&◌, not, ◌==◌, nat_le, if◌then◌else◌, List, [], ◌∷◌, ◌++◌, length, take, drop, map, slice_get, Option, Some, None}
use Rattle.std.specs.Option.{option_map}
use Rattle.store_core.specs.Request.{Sealed}
use Rattle.entry_core.specs.Log.{decide, ids, is_in}
use Rattle.store_core.specs.declared.entry.Entry.{Entry}

-- the requests of entries
abbrev pub requests_of : List Entry → List Sealed
requests_of es = map (λ (e : Entry). e.sealed) es

-- what is sent of a log: its requests after a place
abbrev pub part_of : List Entry → ℕ → List Sealed
part_of log from = requests_of (drop from log)

-- the number of the request at the end of a log
abbrev pub last_id : List Entry → Option ℕ
last_id log = option_map (λ (e : Entry). e.sealed.id) (slice_get log (length log - 1))

-- how many requests of a part these entries begin with, by their numbers, place by place
abbrev pub agreed : List Entry → List Sealed → ℕ
agreed [] part = 0
agreed (e ∷ es) [] = 0
agreed (e ∷ es) (s ∷ part) = if e.sealed.id == s.id then suc (agreed es part) else 0

-- no number stands twice where these requests come behind those numbers
abbrev pub are_new : List ℕ → List Sealed → Bool
are_new before [] = true
are_new before (s ∷ part) = not (is_in before s.id) && are_new (before ++ s.id ∷ []) part

-- a log with requests that were decided behind it, one after another
abbrev pub decided_behind : List Entry → List Sealed → List Entry
decided_behind log [] = log
decided_behind log (s ∷ part) = decided_behind (log ++ decide log s ∷ []) part

-- how many entries of a log stay where a part from this place on is fitted: those before it, and those that it begins with
abbrev pub kept : List Entry → ℕ → List Sealed → ℕ
kept log from part = from + agreed (drop from log) part

-- whether a part fits: it begins within the log, one entry is dropped at most, and no number would stand twice
abbrev pub can_fit : List Entry → ℕ → List Sealed → Bool
can_fit log from part =
    nat_le from (length log) && (nat_le (length log) (kept log from part + 1) && are_new (ids (take (kept log from part) log)) (drop (agreed (drop from log) part) part))

-- the log that is fitted to a part, where that fits
abbrev pub fitted : List Entry → ℕ → List Sealed → Option (List Entry)
fitted log from part =
    if can_fit log from part then Some (decided_behind (take (kept log from part) log) (drop (agreed (drop from log) part) part)) else None
