use Rattle.std.proofs.Common.{sym, ap, ◌∙◌}
use Rattle.std.specs.Option.{option_and_then}
use Rattle.world_script.specs.Command.{command, command_of}
use Rattle.world_script.proofs.ScriptWords.{whole_is}
use Rattle.world_script.proofs.reading.read_line.Goals as goal

pub returns : goal.returns
returns c =
    c.whole.ensures ∙ whole_is command c.in-Some.words c.command.new.words c.in_ok-found.found c.in_ok-found.ensures ∙ ap (option_and_then command_of) (sym c.in-Some.is ∙ c.of.ensures)
