use Rattle.std.proofs.Common.{◌≡◌, ◌∙◌, List, map, sym, ap, subst}
use Rattle.std.specs.Prelude.{All}
use Rattle.std.proofs.lemmas.Result.{MatchResult-weaker}
use Rattle.group_model.specs.Group.{Group}
use Rattle.world_core.specs.declared.world.parts.WorldParts.{WorldParts}
use Rattle.cluster_locks.specs.declared.users.UserTable.{UserTable}
use Rattle.cluster_locks.specs.Groups.{group_in}
use Rattle.cluster_locks.specs.Shares.{monitor_share, pass_share}
use Rattle.cluster.specs.declared.cluster.Cluster.{Cluster}
use Rattle.cluster.specs.Passes.{AreFreshOf, HaveDrawnNone, firsts_of, start_of}
use Rattle.cluster.specs.Monitors.{Follows}
use Rattle.cluster.specs.Begun.{AreIdle, HasChangedNothing, HasParts, HasWorld}
use Rattle.cluster.proofs.Begun.{fresh_numbers}
use Rattle.cluster.proofs.starting.cluster_of.Goals as goal

has_parts : (p : WorldParts) (c : Cluster) → HasWorld p → start_of c ≡ p.map → firsts_of c ≡ p.groups.items → c.users.first ≡ record { db = p.users; sessions = 0 } → HasParts p c
has_parts p c h map_is groups users = record {
  begun = record {
    world = h.world;
    sound = h.sound;
    unasked = h.unasked;
    map_is = sym (map_is ∙ h.map_is);
    groups = groups ∙ h.groups;
    users = ap (λ (t : UserTable). t.db) users ∙ h.users;
    sessions = ap (λ (t : UserTable). t.sessions) users;
  };
  map_is = map_is;
  groups = groups;
  users = ap (λ (t : UserTable). t.db) users;
  sessions = ap (λ (t : UserTable). t.sessions) users;
}

pub watch-requires-clause-seats : goal.watch-requires-clause-seats
watch-requires-clause-seats g c = c.in_ok-cluster.ensures.monitor

pub watch-requires-clause-places : goal.watch-requires-clause-places
watch-requires-clause-places g c =
    c.in_ok-places.ensures ∙ (ap (λ l. map (λ (p : Group). p.group) (map group_in l)) c.as_slice.ensures.value ∙ ap (λ (l : List Group). map (λ (p : Group). p.group) l) (sym c.in_ok-cluster.ensures.groups))

pub with_passes-requires-clause-monitor : goal.with_passes-requires-clause-monitor
with_passes-requires-clause-monitor g c =
    let opened = c.in_ok-cluster.ensures in
    let start = opened.start ∙ c.in_ok-start.ensures in
    let watched = c.in-Ok.ensures in record {
      own = watched.monitor;
      whole = watched.whole.0;
      map_is = watched.whole.2 ∙ sym start;
      follows = subst (λ h. Follows h c.in-Ok.monitor) (sym start) (watched.follows (monitor_share c.args.passes) opened.fresh.0);
      numbers = subst HaveDrawnNone (sym watched.whole.1) (fresh_numbers c.in_ok-cluster.cluster (monitor_share c.args.passes) c.in_ok-cluster.seats opened.fresh.0);
    }

pub with_passes-requires-clause-begun : goal.with_passes-requires-clause-begun
with_passes-requires-clause-begun g c =
    let opened = c.in_ok-cluster.ensures in
    (has_parts c.args.parts c.in_ok-cluster.cluster c.requires (opened.start ∙ c.in_ok-start.ensures) (opened.groups ∙ c.in_ok-groups.ensures) opened.users).begun

pub with_passes-requires-clause-fresh : goal.with_passes-requires-clause-fresh
with_passes-requires-clause-fresh g c =
    let opened = c.in_ok-cluster.ensures in
    subst (λ n. All (AreFreshOf c.in_ok-cluster.cluster (pass_share n)) c.in_ok-cluster.all.items) (sym opened.count.0) opened.fresh.1

pub returns : goal.returns
returns g c =
    let opened = c.in_ok-cluster.ensures in
    let parts = has_parts c.args.parts c.in_ok-cluster.cluster c.requires (opened.start ∙ c.in_ok-start.ensures) (opened.groups ∙ c.in_ok-groups.ensures) opened.users in
    MatchResult-weaker c.with_passes.result c.with_passes.ensures
    (λ r h. subst (λ (k : Cluster). HasParts c.args.parts k × HasChangedNothing k r.1 × (r.2.len ≡ c.args.passes) × AreIdle k r.2.items) (sym h.0) (parts, h.1, h.2 ∙ opened.count.1, h.3)) (λ fault h. h)
