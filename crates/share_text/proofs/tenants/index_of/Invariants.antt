use Rattle.std.proofs.Common.{◌≡◌, ◌++◌, drop}
use Rattle.share_text.specs.Behind.{grants_of}
use Rattle.share_text.proofs.tenants.index_of.Given as goal

-- what is added, and the rest, are all
abbrev pub invariant-loop-tenant : goal.invariant-loop-tenant
invariant-loop-tenant l = l.index ++ grants_of (drop l.tenant-index l.tenants) ≡ grants_of l.tenants
