use Rattle.std.proofs.Common.{◌≡◌, ◌++◌, drop, map}
use Rattle.share_text.specs.Everybody.{everybody}
use Rattle.share_text.proofs.everybody.names_of.Given as goal

-- the names so far, and those of the rest, are those of all
abbrev pub invariant-loop-tenant : goal.invariant-loop-tenant
invariant-loop-tenant l = map (λ name. name.now) l.names.items ++ everybody (drop l.tenant-index l.tenants) ≡ everybody l.tenants
