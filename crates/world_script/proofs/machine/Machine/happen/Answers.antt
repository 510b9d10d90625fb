use Rattle.std.proofs.Common.{OnOk, string_bytes, subst}
use Rattle.world_script.specs.Script.{Machine, event_line}
use Rattle.world_script.specs.Steps.{Does, at}
use Rattle.world_script.proofs.machine.Machine.happen.Goals as goal

pub returns : goal.returns
returns c =
    subst (λ (m : Machine). OnOk c.happen.result (Does m (event_line m c.args.event) (string_bytes c.args.text.now) (string_bytes c.happen.new.text) (at c.self.inside.tick c.happen.new.world)))
    c.self.view_is (c.happen.ensures c.self.inside.tick)
