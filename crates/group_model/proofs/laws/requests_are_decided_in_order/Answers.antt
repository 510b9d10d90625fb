use Rattle.group_model.specs.Group.{start}
use Rattle.group_model.proofs.SameGroups.{run_takes}
use Rattle.group_model.proofs.Statements.{decides_in_order}
use Rattle.group_model.proofs.laws.requests_are_decided_in_order.Goals as goal

pub returns : goal.returns
returns c = record {
  order = decides_in_order;
  taken = λ group z count acting up events. run_takes events (start group z count acting up);
}
