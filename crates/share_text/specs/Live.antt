-- Refinement: only contracts inside the crate use it.
-- The ticket that is made of rights with networks.
use Rattle.std.specs.Prelude.{◌≡◌, ◌↔◌, IsTrue, List, Bool, false, Option, Some, None, Result, Ok}
use Rattle.rights_core.specs.Rights.{NetworkGrant, Rights, has_networks, live_grants}
use Rattle.verdict_core.specs.Ticket.{Ticket}
use Rattle.share_text.specs.Everywhere.{ReadsAndWritesAll}
use Rattle.share_text.specs.declared.holder.Holder.{Holder}

-- a ticket of the grants that some address has, or none where no grant has a network
abbrev pub IsLive : List NetworkGrant → Option Ticket → Type 0
IsLive grants (Some ticket) = ticket.grants ≡ live_grants grants
IsLive grants None = has_networks grants ≡ false

-- that of an entity that has rights, and whether these reach every object
abbrev pub IsLiveOf : Holder → Option Ticket → Bool → Type 0
IsLiveOf entity ticket everywhere =
    (rights : Rights) → entity.read.now ≡ Ok rights → IsLive rights.grants ticket × (IsTrue everywhere ↔ ReadsAndWritesAll (live_grants rights.grants))
