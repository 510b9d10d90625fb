use Rattle.std.specs.Prelude.{codes}
use Rattle.world_script.proofs.ScriptWords.{differ}
use Rattle.world_script.proofs.reading.wire_command_named.Goals as goal

pub returns-in_default : goal.returns-in_default
returns-in_default c =
    rw (
      differ c.args.word.now (codes "deliver") c.in_default.not-deliver,
      differ c.args.word.now (codes "lose") c.in_default.not-lose,
      differ c.args.word.now (codes "repeat") c.in_default.not-repeat,
      differ c.args.word.now (codes "settle") c.in_default.not-settle,
      differ c.args.word.now (codes "kick") c.in_default.not-kick,
      differ c.args.word.now (codes "lose-all") c.in_default.not-text,
      differ c.args.word.now (codes "answer") c.in_default.not-answer,
      differ c.args.word.now (codes "listing") c.in_default.not-listing,
      differ c.args.word.now (codes "ready") c.in_default.not-ready,
    )
