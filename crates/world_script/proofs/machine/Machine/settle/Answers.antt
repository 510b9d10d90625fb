use Rattle.std.proofs.Common.{OnOk, string_bytes, subst}
use Rattle.world_script.specs.Script.{Machine, settle_line}
use Rattle.world_script.specs.Steps.{Does, at}
use Rattle.world_script.proofs.ScriptLines.{on_ok, settles_does}
use Rattle.world_script.proofs.machine.Machine.settle.Goals as goal

pub returns : goal.returns
returns c =
    let old = string_bytes c.args.text.now in
    let new = string_bytes c.push_settled.new.text in
    subst (λ (m : Machine). OnOk c.push_settled.result (Does m (settle_line m) old new (at c.self.inside.tick c.sweep_groups.new.world))) c.self.view_is
    (on_ok c.push_settled.result (settles_does c.self.inside.tick c.self.inside.world c.sweep_groups.new.world c.in_ok-count.count old new c.in_ok-count.ensures.after c.in_ok-count.ensures.count) c.push_settled.ensures)
