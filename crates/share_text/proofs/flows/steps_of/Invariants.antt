use Rattle.std.proofs.Common.{length, map, option_copied}
use Rattle.share_text.specs.Flows.{grants_at}
use Rattle.share_text.specs.Kinds.{ShareWithin}
use Rattle.share_text.specs.declared.kind.Kind.TheVariants.{WritesReads}
use Rattle.share_text.proofs.Reaching.{AreLists}
use Rattle.share_text.proofs.flows.steps_of.Given as goal

-- those below have their readers
abbrev pub invariant-loop-writer : goal.invariant-loop-writer
invariant-loop-writer l =
    AreLists (λ writer reader. ShareWithin (option_copied l.pools) WritesReads (grants_at l.tenants writer) (grants_at l.tenants reader)) (length l.tenants)
    (map (λ readers. readers.items) l.steps.items) l.writer-index
