-- Statement: contracts of public calls use it.
-- The decided entries, told by where they stand in the groups' own lists: a world need not store them twice.
use Rattle.std.specs.Prelude.{◌≡◌, ℕ, ◌≤◌, ◌-◌, List, [], ◌∷◌, ◌++◌, Option, None, Some, if◌then◌else◌, nat_lt, length, take, drop}
use Rattle.std.specs.List.{flat_map}
use Rattle.store_core.specs.declared.entry.Entry.{Entry}
use Rattle.store_core.specs.declared.sealed.GroupId.{GroupId}
use Rattle.group_model_whole.specs.Each.{Each}
use Rattle.group_model.specs.Group.{Group, group_step}
use Rattle.group_model.specs.Group as group
use Rattle.world_events.specs.declared.event.Event.{Event}
use Rattle.world_core.specs.World.{World, Part, group_at, act, created_by}
use Rattle.world_core.specs.Standing.{audit_at}

-- the entries of one group that one event decided: from one place of the group's list up to another
pub record Run : Type 0 where
  pub id : GroupId
  pub from : ℕ
  pub upto : ℕ

abbrev pub entries_of : List Group → Run → List Entry
entries_of groups run = take (run.upto - run.from) (drop run.from (audit_at run.id groups))

-- all entries of some runs
abbrev pub told_by : List Group → List Run → List Entry
told_by groups runs = flat_map (entries_of groups) runs

pub record Fits (groups : List Group) (run : Run) : Type 0 where
  pub forward : run.from ≤ run.upto
  pub within : run.upto ≤ length (audit_at run.id groups)

-- the runs tell what was decided
pub record Tells (groups : List Group) (runs : List Run) (audit : List Entry) : Type 0 where
  pub fit : Each (Fits groups) runs
  pub tell : told_by groups runs ≡ audit

-- the run of an event in a group, if it decided anything
abbrev pub run_between : GroupId → ℕ → ℕ → List Run
run_between id from upto = if nat_lt from upto then record { id = id; from = from; upto = upto } ∷ [] else []

abbrev pub run_of : GroupId → Option Group → group.Event → List Run
run_of id None e = []
run_of id (Some g) e = run_between id (length g.audit) (length (group_step g e).audit)

-- one part of an event adds its run, and a new group adds none
abbrev pub RunsTell : Type 0
RunsTell =
    ((w : World) (p : Part) (runs : List Run) → Tells w.groups runs w.audit
    → Tells (act w p).groups (runs ++ run_of p.id (group_at p.id w.groups) p.event) (act w p).audit)
    × ((w : World) (e : Event) (groups : List Group) (runs : List Run) (audit : List Entry) → Tells groups runs audit → Tells (groups ++ created_by w.front e) runs audit)
