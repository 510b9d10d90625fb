use Rattle.std.proofs.Common.{string_bytes}
use Rattle.share_text.specs.FlowLines.{IsFoundTold}
use Rattle.share_text.specs.Flows.{OfEach}
use Rattle.share_text.proofs.flows.told_chains.Given as goal

-- what is reported so far
abbrev pub invariant-loop-found : goal.invariant-loop-found
invariant-loop-found l = OfEach (IsFoundTold l.detail l.check l.tenants l.writer l.chains) l.found-index (string_bytes l.printed.text) l.printed.fails
