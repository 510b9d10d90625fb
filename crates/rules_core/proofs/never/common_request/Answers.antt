use Rattle.std.proofs.Common.{option_copied, ◌∙◌}
use Rattle.rules_core.proofs.NeverSteps.{broken_by, tried_plain}
use Rattle.rules_core.proofs.never.common_request.Goals as goal

pub common_among-requires : goal.common_among-requires
common_among-requires c = tried_plain c.as_slice.result.now c.args.region.now.grants c.args.entity.now.grants (c.as_slice.ensures.value ∙ c.in_ok-touches.ensures)

pub returns : goal.returns
returns c =
    broken_by (option_copied c.args.pools) c.args.region.now.grants c.args.entity.now.grants c.as_slice.result.now c.in_ok-found.found (c.as_slice.ensures.value ∙ c.in_ok-touches.ensures) c.in_ok-found.ensures
