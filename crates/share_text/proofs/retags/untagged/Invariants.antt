use Rattle.std.proofs.Common.{◌≡◌, ◌++◌, drop}
use Rattle.share_text.specs.Retags.{untagged}
use Rattle.share_text.proofs.retags.untagged.Given as goal

-- what is made so far, and what the rest gives, is the whole
abbrev pub invariant-loop-grant : goal.invariant-loop-grant
invariant-loop-grant l = l.grants.items ++ untagged (drop l.grant-index l.given) ≡ untagged l.given
