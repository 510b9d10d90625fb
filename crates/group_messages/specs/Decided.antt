-- Statement: contracts of public calls use it.
-- Which entries of a log are decided while its last one is in flight.
use Rattle.std.specs.Prelude.{ℕ, ◌-◌, List, [], ◌∷◌, length, take, Option, Some, None}
use Rattle.store_core.specs.declared.entry.Entry.{Entry}

-- the entries that are not in flight
abbrev pub not_in_flight : List Entry → Option (List ℕ) → List Entry
not_in_flight log None = log
not_in_flight log (Some holders) = take (length log - 1) log

abbrev pub last : List Entry → Option Entry
last [] = None
last (e ∷ []) = Some e
last (e ∷ f ∷ es) = last (f ∷ es)
