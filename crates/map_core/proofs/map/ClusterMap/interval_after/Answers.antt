use Rattle.std.proofs.Common.{sym, ◌∙◌, ap, ◌++◌, Option, List, ℕ}
use Rattle.std.specs.Option.{option_to_list}
use Rattle.map_core.specs.Map.{initial, after, map_of}
use Rattle.map_core.specs.Intervals.{intervals_of, intervals_from, begun, set_of}
use Rattle.map_core.proofs.IntervalLists.{intervals_push}
use Rattle.std.specs.Option.{IfSome}
use Rattle.std.proofs.Common.{subst}
use Rattle.map_core.specs.ActingSets.{IsSetOf}
use Rattle.map_core.proofs.Daemons.{begun_is}
use Rattle.map_core.proofs.map.ClusterMap.interval_after.Goals as goal

pub returns-clause-interval : goal.returns-clause-interval
unfolding intervals_of
returns-clause-interval c =
    let h = c.args.self.now in
    intervals_push (initial h.daemons) c.args.pool.now c.args.group h.commands c.args.command.now
    ∙ ap (λ (o : Option (List ℕ)). intervals_from (initial h.daemons) c.args.pool.now c.args.group h.commands ++ option_to_list o)
    (sym (c.begun.ensures ∙ ap (λ (o : Option (List ℕ)). begun c.args.command.now o c.acting_set_after-new.result) c.acting_set-old.ensures.members
    ∙ ap (begun c.args.command.now (set_of (map_of h) c.args.pool.now c.args.group)) c.acting_set_after-new.ensures.members))

pub returns-clause-ranked : goal.returns-clause-ranked
returns-clause-ranked c =
    let P = IsSetOf (after (map_of c.args.self.now) c.args.command.now) c.args.pool.now c.args.group in
    subst (λ (o : Option (List ℕ)). IfSome o P) (sym c.begun.ensures) (begun_is P c.args.command.now c.acting_set-old.result c.acting_set_after-new.result c.acting_set_after-new.ensures.ranked)
