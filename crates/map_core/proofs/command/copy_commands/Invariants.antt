use Rattle.std.proofs.Common.{◌≡◌, take}
use Rattle.map_core.proofs.command.copy_commands.Given as goal

abbrev pub invariant-loop-command : goal.invariant-loop-command
invariant-loop-command l = l.all.items ≡ take l.command-index l.commands
