-- Refinement: only contracts inside the crate use it.
-- The tickets of rights at addresses that decide for all addresses.
use Rattle.std.specs.Prelude.{◌≡◌, List, All}
use Rattle.std.specs.List.{Contains}
use Rattle.network_core.specs.Address.{IsAddress}
use Rattle.network_core.specs.declared.address.Address.{Address}
use Rattle.rights_core.specs.Rights.{Rights, grants_at}
use Rattle.verdict_core.specs.Ticket.{Ticket}

-- each ticket is that of some address, and each address has one of them
pub record AreSampled (rights : Rights) (tickets : List Ticket) : Type 0 where
  pub are : All (λ t. (a : Address) × IsAddress a × (t.grants ≡ grants_at rights.grants a)) tickets
  pub stand : (a : Address) → IsAddress a → (t : Ticket) × Contains tickets t × (t.grants ≡ grants_at rights.grants a)
