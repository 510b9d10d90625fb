use Rattle.std.proofs.Common.{◌∙◌}
use Rattle.share_core.proofs.Indexed.{count_of, near_by}
use Rattle.share_core.proofs.pool_index.PoolIndex.near.Goals as goal

pub returns : goal.returns
returns c =
    near_by c.args.ticket.now.grants c.args.self.now c.args.from c.len.result c.in_ok-places.places.items c.keep_between.new.places.items c.put_in_order.new.places.items
    (count_of (λ ticket. ticket.now.grants) c.self.inside.tickets.items c.args.self.now c.len.result (c.len.ensures ∙ c.self.inside.tickets.ok.0) c.self.view_is)
    c.keep_between.ensures c.put_in_order.ensures.rising c.put_in_order.ensures.kept c.put_in_order.ensures.among c.in_ok-places.ensures
