-- Statement: contracts of public calls use it.
-- With how many entries two logs begin alike, by the numbers of their requests.
use Rattle.std.specs.Prelude.{ℕ, suc, ◌==◌, List, [], ◌∷◌, ◌++◌, map, take, if◌then◌else◌}
use Rattle.store_core.specs.Request.{Sealed}
use Rattle.entry_core.specs.Log.{ids}
use Rattle.store_core.specs.declared.entry.Entry.{Entry}
use Rattle.group_messages.specs.Types.{Offer, Common}

-- the numbers of the log that was told to a copy of this log
abbrev pub told_ids : List Entry → Offer → List ℕ
told_ids log i = ids (take i.start log) ++ map (λ (s : Sealed). s.id) i.part

-- how many leading numbers are the same
abbrev pub common : List ℕ → List ℕ → ℕ
common [] ys = 0
common (x ∷ xs) [] = 0
common (x ∷ xs) (y ∷ ys) = if x == y then suc (common xs ys) else 0

-- with how many entries the member's log begins like the new one
abbrev pub common_of : List Offer → List Entry → List Entry → ℕ → ℕ
common_of [] old new m = 0
common_of (i ∷ is) old new m = if i.number == m then common (told_ids old i) (ids new) else common_of is old new m

-- what is kept of a member
abbrev pub count_at : List Common → ℕ → ℕ
count_at [] m = 0
count_at (k ∷ ks) m = if k.member == m then k.count else count_at ks m
