-- Refinement: only contracts inside the crate use it.
-- The rights that are made or borrowed.
use Rattle.rights_core.specs.Rights.{Rights}
use Rattle.gate_calls.specs.declared.widening.Lent.{Lent}
use Rattle.gate_calls.specs.declared.widening.Lent.TheVariants.{Made, Borrowed}

abbrev pub lent_rights : Lent → Rights
lent_rights (Made rights) = rights
lent_rights (Borrowed rights) = rights.now
