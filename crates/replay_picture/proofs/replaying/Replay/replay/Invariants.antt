use Rattle.std.proofs.Common.{length}
use Rattle.replay_picture.proofs.replaying.Replay.replay.Given as goal

abbrev pub decreases-loop-line : goal.decreases-loop-line
decreases-loop-line l = length l.lines.lines
