use Rattle.std.proofs.Common.{drop, option_copied, string_bytes}
use Rattle.share_text.specs.Retags.{IsRetagTold, untagged}
use Rattle.share_text.specs.Untagged.{plain_of}
use Rattle.share_text.proofs.NearTold.{NearTold}
use Rattle.share_text.proofs.retags.retags_with.Given as goal

-- what is reported so far, then of those from some place on, whose near ones are left, is what is reported of all
abbrev pub invariant-loop-place : goal.invariant-loop-place
invariant-loop-place l =
    NearTold (IsRetagTold (option_copied l.pools) l.format l.one) (untagged l.one.ticket.now.grants) (plain_of l.tenants) (drop l.from l.tenants) l.tenants (drop l.place-index l.near)
    (string_bytes l.printed.text) l.printed.fails
