use Rattle.std.proofs.Common.{◌≡◌, List, refl}
use Rattle.std.specs.Prelude.{codes}
use Rattle.world_script.specs.Command.{Word, command_named, wire_command_named}
use Rattle.world_script.proofs.ScriptWords.{differ, ok_takes_as}
use Rattle.world_script.proofs.reading.command_named.Goals as goal

pub returns-in_default : goal.returns-in_default
returns-in_default c =
    let same : (ws : List Word) → command_named c.args.word.now ws ≡ wire_command_named c.args.word.now ws = λ ws. rw (
      differ c.args.word.now (codes "osds") c.in_default.not-osds,
      differ c.args.word.now (codes "osd") c.in_default.not-osd,
      differ c.args.word.now (codes "auth") c.in_default.not-auth,
      differ c.args.word.now (codes "open") c.in_default.not-open,
      differ c.args.word.now (codes "renew") c.in_default.not-renew,
      differ c.args.word.now (codes "close") c.in_default.not-close,
      differ c.args.word.now (codes "tick") c.in_default.not-tick,
      differ c.args.word.now (codes "do") c.in_default.not-do,
      differ c.args.word.now (codes "ls") c.in_default.not-ls,
    ) refl
    in ok_takes_as (command_named c.args.word.now) (wire_command_named c.args.word.now) c.args.words.now c.wire_command_named.new.words c.wire_command_named.result same c.wire_command_named.ensures
