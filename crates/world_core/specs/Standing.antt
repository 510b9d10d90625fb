-- Statement: contracts of public calls use it.
-- What every world keeps, whatever happens.
use Rattle.std.specs.Prelude.{◌≡◌, ◌<◌, ◌^◌, List, [], Some, None, Option, length}
use Rattle.store_core.specs.declared.entry.Entry.{Entry}
use Rattle.store_core.specs.declared.sealed.GroupId.{GroupId}
use Rattle.group_model_whole.specs.Each.{Each}
use Rattle.group_model_whole.specs.Asked.{IsAsked}
use Rattle.group_model.specs.Group.{Group}
use Rattle.entry_core.specs.Locality.{IsPlaced}
use Rattle.world_front.specs.Groups.{group_count}
use Rattle.world_front.specs.Merging.{part_of}
use Rattle.world_core.specs.World.{World, group_at}

-- what was decided in the group of a place
abbrev pub audit_in : Option Group → List Entry
audit_in None = []
audit_in (Some g) = g.audit

abbrev pub audit_at : GroupId → List Group → List Entry
audit_at id groups = audit_in (group_at id groups)

-- each group's entries stand in the world's list in their order, and all its entries are of groups
abbrev pub IsMerged : World → Type 0
IsMerged w = (id : GroupId) → part_of id w.audit ≡ audit_at id w.groups

-- each entry's request was submitted, under its number and for the group of its object
abbrev pub AllSubmitted : World → Type 0
AllSubmitted w = Each (λ e. IsAsked w.front.submissions e.sealed × IsPlaced (group_count w.front.history) e.sealed) w.audit

-- an id has room for the number of each submission
abbrev pub HasNumbers : World → Type 0
HasNumbers w = length w.front.submissions < 2 ^ 32
