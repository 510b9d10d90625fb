-- What a cluster begins with, and what fresh seats are to a pass.
use Rattle.std.proofs.Common.{◌≡◌, ℕ, true, List, [], ◌∷◌, map, fold, append-nil, refl, sym, ap, ◌∙◌, subst, arith}
use Rattle.std.specs.Prelude.{Option, Some, IsNone}
use Rattle.std.proofs.lemmas.List.Sums.{fold-append}
use Rattle.grant_core.specs.Flat.{Table}
use Rattle.map_core.specs.State.{History, GoesOn}
use Rattle.group_model_whole.specs.Each.{Each}
use Rattle.group_model.specs.Group.{Event, is_submitted}
use Rattle.world_events.specs.declared.event.Event.{Event as WorldEvent}
use Rattle.world_core.specs.World.{World}
use Rattle.world_core.specs.Holds.{Holds}
use Rattle.world_front.specs.ControlPlane.{ControlPlane, first_front, front_step, front_after, requests_of, requests_in}
use Rattle.cluster.specs.declared.cluster.Cluster.{Cluster}
use Rattle.cluster.specs.declared.cluster.Seats.{Seats}
use Rattle.cluster.specs.declared.monitor.Monitor.{Monitor}
use Rattle.cluster.specs.declared.pass.Pass.{Pass}
use Rattle.cluster_locks.specs.declared.beginning.PoolSpec.{PoolSpec}
use Rattle.cluster_locks.specs.declared.beginning.UserSpec.{UserSpec}
use Rattle.published_map.specs.Published.{GoesOnFrom}
use Rattle.cluster.specs.Passes.{AreFreshOf, group_count}
use Rattle.cluster_locks.specs.Shares.{pass_share}
use Rattle.cluster.specs.GroupMoves.{happened, happened_at}
use Rattle.cluster.specs.Monitors.{IsMonitorOf, published_of, waiting_of}
use Rattle.cluster.specs.Asks.{IsBegun, asked_of, IsOwnEvent, Asks, known_by, IsPassOf}
use Rattle.cluster.specs.declared.fault.ClusterFault.{ClusterFault}
use Rattle.cluster.specs.declared.fault.ClusterFault.TheVariants as faults
use Rattle.cluster_locks.specs.Beginning.{creation_of, addition_of, events_of}
use Rattle.cluster.specs.Starts.{IsWant, StartFails}
use Rattle.cluster.proofs.Begun.{fresh_are, row_own}
use Rattle.cluster.proofs.Following.{fresh_mine}
use Rattle.cluster.proofs.GoingOn.{stands_whole}

-- ---- where pools are created and users added, nothing is asked

after_pools : (f : ControlPlane) (pools : List PoolSpec) → (fold front_step f (map creation_of pools)).submissions ≡ f.submissions
unfolding requests_of requests_in
after_pools f [] = refl
after_pools f (p ∷ ps) = after_pools (front_step f (creation_of p)) ps ∙ append-nil f.submissions

after_users : (f : ControlPlane) (users : List UserSpec) → (fold front_step f (map addition_of users)).submissions ≡ f.submissions
unfolding requests_of requests_in
after_users f [] = refl
after_users f (u ∷ us) = after_users (front_step f (addition_of u)) us ∙ append-nil f.submissions

unasked : (table : Table) (daemons : ℕ) (pools : List PoolSpec) (users : List UserSpec) → (front_after table daemons (events_of pools users)).submissions ≡ []
unasked table daemons pools users =
    ap (λ (f : ControlPlane). f.submissions) (fold-append front_step (first_front table daemons) (map creation_of pools) (map addition_of users))
    ∙ (after_users (fold front_step (first_front table daemons) (map creation_of pools)) users ∙ after_pools (first_front table daemons) pools)

pub nothing_asked : (table : Table) (daemons : ℕ) (pools : List PoolSpec) (users : List UserSpec) (events : List WorldEvent) (w : World) → events ≡ events_of pools users → Holds table daemons events w → w.front.submissions ≡ []
nothing_asked table daemons pools users events w are holds = ap (λ (f : ControlPlane). f.submissions) (holds.front ∙ ap (front_after table daemons) are) ∙ unasked table daemons pools users

-- ---- want is a fault of the start

pub want_fails : (table : Table) (daemons : ℕ) (events : List WorldEvent) (fault : ClusterFault) → IsWant fault → StartFails table daemons events fault
want_fails table daemons events (faults.World why) h = absurd h
want_fails table daemons events faults.OutOfMemory h = h
want_fails table daemons events faults.NoReader h = h
want_fails table daemons events faults.NoThread h = h
want_fails table daemons events (faults.Unfinished at) h = h

-- ---- fresh seats have made nothing

asks_nothing : (c : Cluster) (share : ℕ) (p : Seats) → AreFreshOf c share p → Asks c [] p
asks_nothing c share p h =
    let none : (j : ℕ) → happened_at p j ≡ [] = λ j. ap happened (fresh_mine share c.groups.items p.groups.items j h.0) in record {
      events = λ j g there. subst (λ (l : List Event). Each (IsOwnEvent c.start [] g.group) l) (sym (none j)) tt;
      each = λ session number least below. absurd (omega arith);
      once = λ j k id a b. let e : is_submitted [] id ≡ true = subst (λ (l : List Event). is_submitted (asked_of l) id ≡ true) (none j) a in absurd (cc);
    }

-- ---- a pass of fresh seats

told_of_start : (start map : History) (told : Option History) → told ≡ Some start → GoesOnFrom map told → GoesOn map start
told_of_start start map told is h = subst (GoesOnFrom map) is h

pub first_pass : (c : Cluster) (m : Monitor) (p : Pass) → IsBegun c → AreFreshOf c (pass_share c.passes) p.seats → IsMonitorOf c m → IsNone m.unfinished → m.map ≡ c.start
    → (known_by p).told ≡ Some (published_of m) → p.sessions.items ≡ [] → IsPassOf c p
first_pass c m p begun fresh own whole start told none = record {
  begun = begun;
  seats = fresh_are c (pass_share c.passes) p.seats fresh;
  made = row_own (pass_share c.passes) c.groups.items p.seats.groups.items fresh.0;
  since = λ map covers. told_of_start c.start map (known_by p).told
      (told ∙ ap (λ (h : History). Some h) (stands_whole m.unfinished (group_count c) m.map (published_of m) (waiting_of m) whole own.stands ∙ start)) covers.1;
  asks = subst (λ l. Asks c l p.seats) (sym none) (asks_nothing c (pass_share c.passes) p.seats fresh);
}
