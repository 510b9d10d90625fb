use Rattle.std.proofs.Common.{◌≡◌, [], drop, sym, subst}
use Rattle.map_core.specs.State.{GoesOn}
use Rattle.published_map.proofs.Grows.{grows, fold_goes_on, ok_adds}
use Rattle.published_map.proofs.published.publish_by.Goals as goal

pub publish_as-requires : goal.publish_as-requires
publish_as-requires g c next is = let now = c.args.writer.desk.shown.value in
    grows _ _ now next (subst (λ z. GoesOn z now.map) (sym is) (fold_goes_on now.map (drop c.args.writer.behind c.args.writer.log.items)))

pub returns-clause-ok : goal.returns-clause-ok
returns-clause-ok g c = let new = c.publish_as.result.0 in let old = c.args.writer in
    ok_adds (drop new.behind new.log.items ≡ []) ((new.desk.shown.value ≡ old.desk.shown.value) × (drop new.behind new.log.items ≡ drop old.behind old.log.items))
    c.publish_as.result.1 old.desk.shown.value.map new.desk.shown.value.map (drop old.behind old.log.items) c.publish_as.ensures.values
