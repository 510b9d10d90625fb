use Rattle.std.proofs.Common.{◌∙◌, ap, ◌++◌, ◌∷◌, []}
use Rattle.world_front.specs.Event.{Open}
use Rattle.world_front.specs.ControlPlane.{ControlPlane, front_step, opened}
use Rattle.world_front.proofs.FrontSteps.{open_step, open_kept}
use Rattle.world_front.proofs.front.ControlPlane.open.Goals as goal

pub invariant_of-self-2 : goal.invariant_of-self-2
invariant_of-self-2 c =
    let inside : ControlPlane = record { database = c.self.inside.users; history = c.self.inside.map; sessions = c.self.inside.sessions; submissions = c.self.inside.submissions; lists = c.self.inside.lists } in
    let pushed = c.in_ok-push.ensures.ok ∙ ap (λ s. inside.sessions ++ s ∷ []) (c.new.ensures ∙ ap (opened c.args.entity) c.in_ok-ticket.ensures.ticket) in
    open_kept inside c.args.entity c.args.until _ c.self.invariant (open_step inside c.args.entity c.args.until c.push.new.self pushed)

pub returns-clause-steps : goal.returns-clause-steps
returns-clause-steps c =
    let inside : ControlPlane = record { database = c.self.inside.users; history = c.self.inside.map; sessions = c.self.inside.sessions; submissions = c.self.inside.submissions; lists = c.self.inside.lists } in
    let pushed = c.in_ok-push.ensures.ok ∙ ap (λ s. inside.sessions ++ s ∷ []) (c.new.ensures ∙ ap (opened c.args.entity) c.in_ok-ticket.ensures.ticket) in
    open_step inside c.args.entity c.args.until c.push.new.self pushed ∙ ap (λ f. front_step f (Open c.args.entity c.args.until)) c.self.view_is
