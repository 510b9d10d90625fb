-- Refinement: only contracts inside the crate use it.
-- What the fields of a group stand for.
use Rattle.std.specs.Prelude.{take}
use Rattle.place_core.specs.Placement.{numbers_of}
use Rattle.group_core.specs.declared.state.GroupState.{GroupState}
use Rattle.group_wire.specs.Furthest.{furthest}
use Rattle.group_model.specs.Group.{Group}

-- what was decided is the beginning of the log of the copy that is furthest on
abbrev pub group_of : GroupState → Group
group_of a = record { group = a.group; min_size = a.min_size; copies = a.copies.items; wire = a.wire.sent; sets = a.sets; up = numbers_of a.up; requests = a.ledger.requests; answers = a.ledger.answers; audit = take a.decided (furthest a.copies.items) }
