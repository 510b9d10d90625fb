-- Refinement: only contracts inside the crate use it.
-- The grants of tenants, as an index of them sees them.
use Rattle.std.specs.Prelude.{List, map}
use Rattle.grant_core.specs.Flat.{Flat}
use Rattle.share_text.specs.declared.tenants.Tenant.{Tenant}

abbrev pub grants_of : List Tenant → List Flat
grants_of tenants = map (λ tenant. tenant.ticket.now.grants) tenants
