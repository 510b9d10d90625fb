use Rattle.std.proofs.Common.{rules}
use Rattle.share_core.proofs.meetings.meet.Goals as goal

pub returns-then-prefixes_meet : goal.returns-then-prefixes_meet
returns-then-prefixes_meet c = search rules
