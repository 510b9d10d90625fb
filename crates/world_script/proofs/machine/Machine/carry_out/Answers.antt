use Rattle.std.proofs.Common.{string_bytes}
use Rattle.world_script.proofs.ScriptLines.{then_ended, submit_goes, list_goes, ready_goes}
use Rattle.world_script.proofs.machine.Machine.carry_out.Goals as goal

pub returns-in-Submit-clause-goes : goal.returns-in-Submit-clause-goes
returns-in-Submit-clause-goes c =
    then_ended c.happen-in-Submit.result c.ended-in-Submit.result
    (submit_goes c.args.self.now c.happen-in-Submit.new.self c.in-Submit.session c.in-Submit.pool c.in-Submit.namespace c.in-Submit.object c.in-Submit.ops c.ask-ask.result c.args.command
    (string_bytes c.args.text.now) (string_bytes c.happen-in-Submit.new.text) c.in-Submit.is c.ask-ask.ensures)
    c.ended-in-Submit.ensures.done c.happen-in-Submit.ensures

pub returns-in-List-clause-goes : goal.returns-in-List-clause-goes
returns-in-List-clause-goes c =
    then_ended c.happen-in-List.result c.ended-in-List.result
    (list_goes c.args.self.now c.happen-in-List.new.self c.in-List.session c.in-List.pool c.in-List.namespace c.ask-ask-in-List.result c.args.command
    (string_bytes c.args.text.now) (string_bytes c.happen-in-List.new.text) c.in-List.is c.ask-ask-in-List.ensures)
    c.ended-in-List.ensures.done c.happen-in-List.ensures

pub returns-in-Ready-clause-goes : goal.returns-in-Ready-clause-goes
returns-in-Ready-clause-goes c =
    then_ended c.ready.result c.ended-in-Ready.result
    (ready_goes c.args.self.now c.in-Ready.group c.world-in-Ready.result.now c.args.command (string_bytes c.args.text.now) (string_bytes c.ready.new.text) c.in-Ready.is c.world-in-Ready.ensures)
    c.ended-in-Ready.ensures.done c.ready.ensures
