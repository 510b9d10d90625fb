use Rattle.published_map.proofs.Grows.{begins}
use Rattle.published_map.proofs.published.first_writer.Goals as goal

pub new-requires-clause-rule : goal.new-requires-clause-rule
new-requires-clause-rule c = begins _
