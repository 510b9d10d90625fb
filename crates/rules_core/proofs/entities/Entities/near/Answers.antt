use Rattle.std.proofs.Common.{ap, sym}
use Rattle.compare_core.proofs.Results.{ok_also}
use Rattle.verdict_core.specs.Ticket.{Ticket}
use Rattle.rules_core.proofs.NearSteps.{all_near}
use Rattle.rules_core.proofs.entities.Entities.near.Goals as goal

pub returns-in-None : goal.returns-in-None
returns-in-None c = ok_also c.all.result (λ places h. all_near c.args.rights.now.grants c.args.self.now places.items h.0 h.1) c.all.ensures

pub returns-in-Some : goal.returns-in-Some
returns-in-Some c =
    ok_also c.near_ticket.result (λ places h. h c.args.rights.now.grants (λ a. ap (λ (t : Ticket). t.grants) (sym (c.in-Some.ensures a)))) c.near_ticket.ensures
