use Rattle.std.proofs.Common.{◌∙◌}
use Rattle.entry_core.proofs.Pushing.{after_copy, same_pairs}
use Rattle.entry_core.proofs.log.LogTryClone.copy.Goals as goal

pub invariant_of-result : goal.invariant_of-result
invariant_of-result c =
    after_copy c.self.inside.entries.items _ c.self.inside.index.entries _ c.self.inside.objects _ c.self.inside.back _ c.self.invariant
    (c.in_ok-copy_entries.ensures ∙ c.as_slice.ensures.value) (same_pairs _ _ c.in_ok-clone.ensures.cases) c.in_ok-copy.ensures c.in_ok-share.ensures
