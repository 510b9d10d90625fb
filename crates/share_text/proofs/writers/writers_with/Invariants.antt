use Rattle.std.proofs.Common.{drop, option_copied, string_bytes}
use Rattle.share_text.specs.Behind.{grants_of}
use Rattle.share_text.specs.Writers.{IsWritersTold}
use Rattle.share_text.proofs.NearTold.{NearTold}
use Rattle.share_text.proofs.writers.writers_with.Given as goal

-- what is reported so far, then of those from some place on, whose near ones are left, is what is reported of all
abbrev pub invariant-loop-place : goal.invariant-loop-place
invariant-loop-place l =
    NearTold (IsWritersTold (option_copied l.pools) l.strictness l.one) l.one.ticket.now.grants (grants_of l.tenants) (drop l.from l.tenants) l.tenants (drop l.place-index l.near) (string_bytes l.printed.text)
    l.printed.fails
