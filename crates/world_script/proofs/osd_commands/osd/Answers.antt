use Rattle.std.proofs.Common.{◌≡◌, ◌∙◌, None, ap}
use Rattle.std.specs.Prelude.{codes}
use Rattle.world_script.specs.Command.{osd, osd_named}
use Rattle.world_script.proofs.ScriptWords.{differ}
use Rattle.world_script.proofs.osd_commands.osd.Goals as goal

pub returns-in_default-word : goal.returns-in_default-word
returns-in_default-word c =
    let none : osd_named c.in-Some.word.now c.next_word.new.self ≡ None = rw (differ c.in-Some.word.now (codes "pool") c.in_default-word.not-pool, differ c.in-Some.word.now (codes "up") c.in_default-word.not-up, differ c.in-Some.word.now (codes "down") c.in_default-word.not-down, differ c.in-Some.word.now (codes "restart") c.in_default-word.not-restart, differ c.in-Some.word.now (codes "map") c.in_default-word.not-map) in
    ap osd c.in-Some.ensures ∙ none
