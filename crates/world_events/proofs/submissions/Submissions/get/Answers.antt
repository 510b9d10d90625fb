use Rattle.std.proofs.Common.{◌∙◌, ap}
use Rattle.group_model_whole.specs.Group.{submitted}
use Rattle.world_events.proofs.Submitted.{request_found}
use Rattle.world_events.proofs.submissions.Submissions.get.Goals as goal

pub returns : goal.returns
returns c = c.get.ensures.value ∙ request_found c.self.inside.requests.entries c.args.id c.self.invariant ∙ ap (λ l. submitted l c.args.id) c.self.view_is
