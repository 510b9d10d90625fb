use Rattle.script_laws.proofs.WorkedScripts.{worked_script, worked_longer_script, worlds_count}
use Rattle.script_laws.proofs.laws.worked_scripts.Goals as goal

pub returns : goal.returns
returns c = record { first = worked_script; longer = worked_longer_script; counts = worlds_count }
