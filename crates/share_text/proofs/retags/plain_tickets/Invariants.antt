use Rattle.std.proofs.Common.{◌≡◌, ◌++◌, drop, map}
use Rattle.share_text.specs.Untagged.{plain_of}
use Rattle.share_text.proofs.retags.plain_tickets.Given as goal

-- those so far, and what the rest gives, are all
abbrev pub invariant-loop-tenant : goal.invariant-loop-tenant
invariant-loop-tenant l = map (λ ticket. ticket.grants) l.tickets.items ++ plain_of (drop l.tenant-index l.tenants) ≡ plain_of l.tenants
