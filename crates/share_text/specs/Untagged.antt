-- Refinement: only contracts inside the crate use it.
-- The grants of tenants for pools of any tags, and what is printed of them.
use Rattle.std.specs.Prelude.{ℕ, List, ◌++◌, map, Bool, true, false, codes}
use Rattle.grant_core.specs.Flat.{Flat}
use Rattle.verdict_text.specs.declared.format.Format.{Format}
use Rattle.verdict_text.specs.declared.format.Format.TheVariants.{Text, Json}
use Rattle.share_text.specs.Retags.{untagged}
use Rattle.share_text.specs.declared.tenants.Tenant.{Tenant}

abbrev pub plain_of : List Tenant → List Flat
plain_of tenants = map (λ (tenant : Tenant). untagged tenant.ticket.now.grants) tenants

-- a line behind its mark, if there is one
abbrev pub marked : Format → Bool → List ℕ → List ℕ
marked Text true text = codes "retag " ++ text
marked Text false text = text
marked Json some text = text
