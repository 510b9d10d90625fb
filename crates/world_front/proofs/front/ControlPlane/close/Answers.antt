use Rattle.std.proofs.Common.{◌∙◌, ap}
use Rattle.world_front.specs.Event.{Close}
use Rattle.world_front.specs.ControlPlane.{ControlPlane, front_step}
use Rattle.world_front.proofs.FrontSteps.{close_step, close_kept}
use Rattle.world_front.proofs.front.ControlPlane.close.Goals as goal

pub invariant_of-self-2 : goal.invariant_of-self-2
invariant_of-self-2 c =
    let inside : ControlPlane = record { database = c.self.inside.users; history = c.self.inside.map; sessions = c.self.inside.sessions; submissions = c.self.inside.submissions; lists = c.self.inside.lists } in
    close_kept inside c.args.session _ c.self.invariant (close_step inside c.args.session c.close.new.self c.in_ok-close.ensures.ok)

pub returns-clause-steps : goal.returns-clause-steps
returns-clause-steps c =
    let inside : ControlPlane = record { database = c.self.inside.users; history = c.self.inside.map; sessions = c.self.inside.sessions; submissions = c.self.inside.submissions; lists = c.self.inside.lists } in
    close_step inside c.args.session c.close.new.self c.in_ok-close.ensures.ok ∙ ap (λ f. front_step f (Close c.args.session)) c.self.view_is
