use Rattle.std.proofs.Common.{arith, subst, sym, All}
use Rattle.std.proofs.lemmas.List.Elements.{All-push}
use Rattle.share_text.specs.Live.{IsLiveOf}
use Rattle.share_text.specs.declared.tenants.Live.{Live}
use Rattle.share_text.proofs.Lives.{one_more_live}
use Rattle.share_text.proofs.tenants.lives_of.Goals as goal

pub loop-entity-preserved : goal.loop-entity-preserved
loop-entity-preserved c = record {
  entities = one_more_live c.args.entities.now c.loop-entity.entity-index c.entity-item.result c.loop-entity.lives.items c.push.new.self.items c.in_ok-live.live (omega arith) c.entity-item.is
      c.in_ok-live.ensures.entity c.in_ok-push.ensures.items c.loop-entity.invariant.entities;
  live = subst (All (λ (l : Live). IsLiveOf l.entity l.ticket l.everywhere)) (sym c.in_ok-push.ensures.items)
      (All-push (λ (l : Live). IsLiveOf l.entity l.ticket l.everywhere) c.loop-entity.lives.items c.in_ok-live.live c.loop-entity.invariant.live c.in_ok-live.ensures.live);
}
