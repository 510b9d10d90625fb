use Rattle.group_story.proofs.Steps.{takes_and_sends}
use Rattle.group_story.proofs.laws.steps_take_and_send.Goals as goal

pub returns : goal.returns
returns c = takes_and_sends
