use Rattle.std.proofs.Common.{◌∙◌, ap}
use Rattle.world_front.specs.Event.{Renew}
use Rattle.world_front.specs.ControlPlane.{ControlPlane, front_step, ticket_for}
use Rattle.world_front.proofs.FrontSteps.{renew_step, renew_kept, session_same}
use Rattle.world_front.proofs.front.ControlPlane.renew.Goals as goal

pub invariant_of-self-2 : goal.invariant_of-self-2
invariant_of-self-2 c =
    let inside : ControlPlane = record { database = c.self.inside.users; history = c.self.inside.map; sessions = c.self.inside.sessions; submissions = c.self.inside.submissions; lists = c.self.inside.lists } in
    let renewed = c.in_ok-renew.ensures.ok ∙ session_same inside.sessions c.args.session c.in_ok-found.found.now (λ s. record s { ticket = c.in_ok-ticket.ticket }) (λ s. record s { ticket = ticket_for inside.database s.entity c.args.until })
    c.in_ok-found.ensures.found (ap (λ t. record c.in_ok-found.found.now { ticket = t }) c.in_ok-ticket.ensures.ticket) in
    renew_kept inside c.args.session c.args.until _ c.self.invariant (renew_step inside c.args.session c.args.until c.renew.new.self renewed)

pub returns-clause-steps : goal.returns-clause-steps
returns-clause-steps c =
    let inside : ControlPlane = record { database = c.self.inside.users; history = c.self.inside.map; sessions = c.self.inside.sessions; submissions = c.self.inside.submissions; lists = c.self.inside.lists } in
    let renewed = c.in_ok-renew.ensures.ok ∙ session_same inside.sessions c.args.session c.in_ok-found.found.now (λ s. record s { ticket = c.in_ok-ticket.ticket }) (λ s. record s { ticket = ticket_for inside.database s.entity c.args.until })
    c.in_ok-found.ensures.found (ap (λ t. record c.in_ok-found.found.now { ticket = t }) c.in_ok-ticket.ensures.ticket) in
    renew_step inside c.args.session c.args.until c.renew.new.self renewed ∙ ap (λ f. front_step f (Renew c.args.session c.args.until)) c.self.view_is
