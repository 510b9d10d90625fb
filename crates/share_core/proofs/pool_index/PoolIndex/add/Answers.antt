use Rattle.std.proofs.Common.{arith, ◌∙◌}
use Rattle.share_core.specs.PoolPlaces.{noted}
use Rattle.share_core.proofs.Indexed.{indexed_more}
use Rattle.std.proofs.lemmas.Grind.{common_steps}
use Rattle.share_core.proofs.pool_index.PoolIndex.add.Goals as goal

pub invariant_of-self-2 : goal.invariant_of-self-2
invariant_of-self-2 c =
    indexed_more (λ ticket. ticket.now.grants) (noted c.self.inside.places) (noted c.note_grants.new.self) c.self.inside.tickets.items c.push.new.self.items c.args.ticket c.len.result c.grants.result.now
    c.in_ok-push.ensures.items (c.len.ensures ∙ c.self.inside.tickets.ok.0) c.grants.ensures.grants c.note_grants.ensures.kept c.self.invariant c.in_ok-note_grants.ensures.added

pub returns-clause-ok : goal.returns-clause-ok
returns-clause-ok c = grind (arith, common_steps)
