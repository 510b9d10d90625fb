use Rattle.world_laws.proofs.AcceptedLaws.{requests_are_submissions, front_tells_requests}
use Rattle.world_laws.proofs.laws.requests_are_submissions.Goals as goal

pub returns : goal.returns
returns c = record { submissions = requests_are_submissions; front = front_tells_requests }
