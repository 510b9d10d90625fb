-- Statement: contracts of public calls use it.
-- One list of decided entries, merged from those of the groups.
use Rattle.std.specs.Prelude.{ℕ, List}
use Rattle.std.specs.List.{filter}
use Rattle.entry_core.specs.Log.{Legal}
use Rattle.store_core.specs.Request.{Sealed}
use Rattle.store_core.specs.declared.entry.Entry.{Entry}
use Rattle.store_core.specs.declared.sealed.GroupId.{GroupId}
use Rattle.group_model_whole.specs.Each.{Each}
use Rattle.group_model_whole.specs.Asked.{IsAsked}
use Rattle.entry_core.specs.Locality.{IsPlaced}
use Rattle.world_front.specs.Groups.{is_of}

-- the entries that were decided for a group, in the order in which they were decided
abbrev pub part_of : GroupId → List Entry → List Entry
part_of group audit = filter (is_of group) audit

-- the request is the one that was submitted under its number, sealed for the group of its object
pub record IsKnown (groups : List ℕ → ℕ) (submissions : List Sealed) (e : Entry) : Type 0 where
  pub asked : IsAsked submissions e.sealed
  pub placed : IsPlaced groups e.sealed

-- entries whose parts are legal, each alone, are legal together in any order that keeps the parts
abbrev pub PartsAreLegalTogether : Type 0
PartsAreLegalTogether =
    (groups : List ℕ → ℕ) (submissions : List Sealed) (audit : List Entry)
    → Each (IsKnown groups submissions) audit
    → ((group : GroupId) → Legal (part_of group audit))
    → Legal audit
