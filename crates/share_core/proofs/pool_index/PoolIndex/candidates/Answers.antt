use Rattle.std.proofs.Common.{ap, subst, sym, ◌∙◌}
use Rattle.compare_core.proofs.Results.{ok_also}
use Rattle.share_core.specs.Near.{LeaveOutApart}
use Rattle.share_core.specs.PoolPlaces.{AreNoted, gathered, has_unnamed, noted}
use Rattle.share_core.proofs.Indexed.{all_listed, count_of, gathered_all}
use Rattle.share_core.proofs.pool_index.PoolIndex.candidates.Goals as goal

pub returns-then-is_open : goal.returns-then-is_open
returns-then-is_open c =
    ok_also c.all_from.result
    (λ places has. all_listed c.args.ticket.now.grants c.args.self.now c.args.from c.len.result places.items
    (count_of (λ ticket. ticket.now.grants) c.self.inside.tickets.items c.args.self.now c.len.result (c.len.ensures ∙ c.self.inside.tickets.ok.0) c.self.view_is) has)
    c.all_from.ensures

pub returns-else-is_open : goal.returns-else-is_open
returns-else-is_open c =
    ok_also c.gather.result
    (λ places is. subst (LeaveOutApart c.args.ticket.now.grants c.args.self.now c.args.from) (sym (is ∙ ap (gathered c.self.inside.places) c.grants-else-is_open.ensures.grants))
    (gathered_all c.self.inside.places c.args.ticket.now.grants c.args.self.now c.args.from (subst (AreNoted (noted c.self.inside.places)) c.self.view_is c.self.invariant)
    (sym (c.is_open.ensures ∙ ap has_unnamed c.grants.ensures.grants) ∙ c.if-is_open.false)))
    c.gather.ensures
