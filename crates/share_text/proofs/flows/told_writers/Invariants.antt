use Rattle.std.proofs.Common.{map, string_bytes}
use Rattle.share_text.specs.FlowLines.{IsWriterTold}
use Rattle.share_text.specs.Flows.{OfEach}
use Rattle.share_text.proofs.flows.told_writers.Given as goal

-- what is reported so far
abbrev pub invariant-loop-writer : goal.invariant-loop-writer
invariant-loop-writer l = OfEach (IsWriterTold l.detail l.check l.tenants (map (λ readers. readers.items) l.steps)) l.writer (string_bytes l.printed.text) l.printed.fails
