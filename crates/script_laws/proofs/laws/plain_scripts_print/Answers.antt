use Rattle.script_laws.proofs.PlainScripts.{plain_scripts_print, plain_beginnings, plain_scripts_write}
use Rattle.script_laws.proofs.laws.plain_scripts_print.Goals as goal

pub returns : goal.returns
returns c = record { print = plain_scripts_print; begin = plain_beginnings; write = plain_scripts_write }
