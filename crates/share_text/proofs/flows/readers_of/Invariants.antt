use Rattle.std.proofs.Common.{option_copied, take}
use Rattle.share_text.specs.Flows.{grants_at}
use Rattle.share_text.specs.Kinds.{ShareWithin}
use Rattle.share_text.specs.declared.kind.Kind.TheVariants.{WritesReads}
use Rattle.share_text.proofs.Reaching.{Keeps}
use Rattle.share_text.proofs.flows.readers_of.Given as goal

-- of the near ones that were looked at, those that read
abbrev pub invariant-loop-place : goal.invariant-loop-place
invariant-loop-place l =
    Keeps (λ reader. ShareWithin (option_copied l.pools) WritesReads l.writer.grants (grants_at l.tenants reader)) (take l.place-index l.near) l.readers.items
