use Rattle.std.proofs.Common.{◌≡◌}
use Rattle.lint_core.proofs.Everywhere.{sampled_at}
use Rattle.lint_core.proofs.rights_lint.sampled.Goals as goal

pub returns : goal.returns
returns c =
    let same : c.as_slice.result.now ≡ c.in_ok-samples.samples.items = cc in
    sampled_at c.args.rights.now c.in_ok-samples.samples.items _ c.in_ok-samples.ensures.samples (rw same at c.in_ok-tickets.ensures)
