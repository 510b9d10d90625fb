use Rattle.share_core.proofs.Indexed.{all_pushed}
use Rattle.share_core.proofs.pool_index.all_from.Goals as goal

pub loop-place-preserved : goal.loop-place-preserved
loop-place-preserved c = all_pushed c.args.from c.loop-place.place c.loop-place.places.items c.push.new.self.items c.in_ok-push.ensures.items c.loop-place.invariant
