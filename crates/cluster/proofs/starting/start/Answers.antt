use Rattle.std.proofs.Common.{◌∙◌, subst}
use Rattle.std.proofs.lemmas.Result.{MatchResult-weaker}
use Rattle.world_core.specs.Holds.{Holds}
use Rattle.cluster_locks.specs.Beginning.{events_of}
use Rattle.cluster.proofs.FirstPasses.{nothing_asked, want_fails}
use Rattle.cluster.proofs.starting.start.Goals as goal

pub cluster_of-requires : goal.cluster_of-requires
cluster_of-requires g c =
    let holds = c.in-Ok.ensures.holds in
    let parts = c.into_parts.ensures in record {
      world = c.in-Ok.world;
      sound = parts.sound;
      unasked = nothing_asked c.args.table c.args.daemons c.args.pools.items c.args.users.items c.as_slice.result.now c.in-Ok.world
          (c.as_slice.ensures.value ∙ c.in_ok-events.ensures) holds;
      users = parts.front.0;
      map_is = parts.front.1;
      groups = parts.groups;
    }

pub returns-in-Ok-clause-begun : goal.returns-in-Ok-clause-begun
returns-in-Ok-clause-begun g c = MatchResult-weaker c.cluster_of.result c.cluster_of.ensures (λ r h. h.0.begun) (λ fault h. tt)

pub returns-in-Ok-clause-cluster : goal.returns-in-Ok-clause-cluster
returns-in-Ok-clause-cluster g c =
    let events = c.as_slice.ensures.value ∙ c.in_ok-events.ensures in
    let parts = c.into_parts.ensures in
    MatchResult-weaker c.cluster_of.result c.cluster_of.ensures
    (λ r h. record {
      world = c.in-Ok.world;
      holds = subst (λ l. Holds c.args.table c.args.daemons l c.in-Ok.world) events c.in-Ok.ensures.holds;
      map_is = h.0.map_is ∙ parts.front.1;
      groups = h.0.groups ∙ parts.groups;
      users = h.0.users ∙ parts.front.0;
      sessions = h.0.sessions;
    })
    (λ fault h. tt)

pub returns-in-Ok-clause-monitor : goal.returns-in-Ok-clause-monitor
returns-in-Ok-clause-monitor g c = MatchResult-weaker c.cluster_of.result c.cluster_of.ensures (λ r h. (h.1.own, h.1.follows)) (λ fault h. tt)

pub returns-in-Ok-clause-whole : goal.returns-in-Ok-clause-whole
returns-in-Ok-clause-whole g c = MatchResult-weaker c.cluster_of.result c.cluster_of.ensures (λ r h. (h.1.whole, h.1.map_is)) (λ fault h. tt)

pub returns-in-Ok-clause-passes : goal.returns-in-Ok-clause-passes
returns-in-Ok-clause-passes g c = MatchResult-weaker c.cluster_of.result c.cluster_of.ensures (λ r h. (h.2, h.3.own)) (λ fault h. tt)

pub returns-in-Ok-clause-idle : goal.returns-in-Ok-clause-idle
returns-in-Ok-clause-idle g c = MatchResult-weaker c.cluster_of.result c.cluster_of.ensures (λ r h. h.3.idle) (λ fault h. tt)

pub returns-in-Ok-clause-numbers : goal.returns-in-Ok-clause-numbers
returns-in-Ok-clause-numbers g c = MatchResult-weaker c.cluster_of.result c.cluster_of.ensures (λ r h. (h.1.numbers, h.3.numbers)) (λ fault h. tt)

pub returns-in-Ok-clause-err : goal.returns-in-Ok-clause-err
returns-in-Ok-clause-err g c = MatchResult-weaker c.cluster_of.result c.cluster_of.ensures (λ r h. tt)
    (λ fault h. want_fails c.args.table c.args.daemons (events_of c.args.pools.items c.args.users.items) fault h)
