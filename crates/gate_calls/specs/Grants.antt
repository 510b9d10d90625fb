-- Refinement: only contracts inside the crate use it.
-- The rights that a handle's grants are.
use Rattle.std.specs.Prelude.{[]}
use Rattle.rights_core.specs.Rights.{Rights, with_networks}
use Rattle.gate_calls.specs.declared.caps.Grants.{Grants}
use Rattle.gate_calls.specs.declared.caps.Grants.TheVariants.{Plain, Limited}

-- the grants of a ticket are for every address
abbrev pub rights_in : Grants → Rights
rights_in (Plain ticket) = record { grants = with_networks ticket.grants []; until = ticket.until }
rights_in (Limited rights) = rights
