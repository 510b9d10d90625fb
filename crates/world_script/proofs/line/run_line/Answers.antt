use Rattle.std.proofs.Common.{◌∙◌, sym}
use Rattle.world_script.proofs.FewDaemons.{few_read}
use Rattle.world_script.proofs.line.run_line.Goals as goal

pub run_command-requires : goal.run_command-requires
run_command-requires c = few_read c.args.line.now.text.now c.in-Some.command (sym c.in-Ok.ensures ∙ c.in-Some.is)
