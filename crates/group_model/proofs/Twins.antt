-- What holds of each group that there can be, by the group that sends whole logs and for which it stands.
use Rattle.std.proofs.Common.{ℕ, zero, suc, ◌≤◌, List, [], ◌∷◌, ◌++◌, refl, ◌∙◌, ap, subst}
use Rattle.entry_core.specs.Log.{Legal}
use Rattle.store_core.specs.declared.sealed.GroupId.{GroupId}
use Rattle.group_model_whole.specs.Each.{Each}
use Rattle.group_model_whole.specs.Asked.{HasSubmit, IsAsked, InLog, IsReplied}
use Rattle.group_model_whole.specs.Group.{Group as WholeGroup, run as whole_run, start as whole_start, settle as whole_settle, group_step as whole_group_step}
use Rattle.group_model_whole.specs.Reached.{IsReached as IsWholeReached}
use Rattle.group_model_whole.proofs.Eaches.{Each-append}
use Rattle.group_model_whole.proofs.Groups.{audit_legal}
use Rattle.group_model_whole.proofs.Refusals.{run_sets, start_sets}
use Rattle.group_model_whole.proofs.Submits.{all_submitted as whole_all_submitted}
use Rattle.group_model.specs.Group.{Group, Answer, Event, Deliver, group_step, run, start, settle, IsSet, EventFits}
use Rattle.group_model.specs.Refinement.{GroupHolds}
use Rattle.group_model.specs.Reached.{IsReached}
use Rattle.group_model.specs.Replicated.{IsReplicated}
use Rattle.group_model.specs.Standing.{StandsFor}
use Rattle.group_model.proofs.Events.{Lock, step_locked, reached_locked}
use Rattle.group_model.proofs.Holding.{decided_held}
use Rattle.group_model.proofs.Standing.{stands_for}
use Rattle.group_model.proofs.Runs.{run-append}

-- a group that sends whole logs, to which the same happened
pub record Twin (g : Group) : Type 0 where
  pub whole : WholeGroup
  pub reached : IsWholeReached whole
  pub lock : Lock g whole

pub twin_of : (g : Group) → IsReached g → Twin g
twin_of g r = subst Twin r.is (record {
  whole = whole_run r.events (whole_start r.group r.min_size r.daemons r.acting r.up);
  reached = record { group = r.group; min_size = r.min_size; daemons = r.daemons; acting = r.acting; up = r.up; events = r.events; least = r.least; begins = r.begins; fit = r.fit; is = refl };
  lock = reached_locked r.group r.min_size r.daemons r.acting r.up r.events;
})

pub lock_stands : (g : Group) (w : WholeGroup) → Lock g w → StandsFor g w
lock_stands g w l = stands_for g w l.agree

pub settle_locked : (n : ℕ) (g : Group) (w : WholeGroup) → Lock g w → Lock (settle n g) (whole_settle n w)
settle_locked zero g w l = l
settle_locked (suc n) g w l = settle_locked n (group_step g (Deliver 0)) (whole_group_step w (Deliver 0)) (step_locked g w (Deliver 0) l)

-- the groups that there can be

pub reached_start : (group : GroupId) (z count : ℕ) (acting up : List ℕ) → 1 ≤ z → IsSet acting → IsReached (start group z count acting up)
reached_start group z count acting up least fits = record {
  group = group;
  min_size = z;
  daemons = count;
  acting = acting;
  up = up;
  events = [];
  least = least;
  begins = fits;
  fit = tt;
  is = refl;
}

-- the next group is one too
pub reached_step : (g : Group) (e : Event) → IsReached g → EventFits e → IsReached (group_step g e)
reached_step g e r fits = record {
  group = r.group;
  min_size = r.min_size;
  daemons = r.daemons;
  acting = r.acting;
  up = r.up;
  events = r.events ++ e ∷ [];
  least = r.least;
  begins = r.begins;
  fit = Each-append EventFits r.events (e ∷ []) r.fit (fits, tt);
  is = run-append r.events (e ∷ []) (start r.group r.min_size r.daemons r.acting r.up) ∙ ap (λ v. group_step v e) r.is;
}

pub reached_holds : (g : Group) → IsReached g → GroupHolds g
reached_holds g r = subst GroupHolds r.is (decided_held r.group r.min_size r.daemons r.acting r.up r.events)

pub reached_replicated : (g : Group) → IsReached g → IsReplicated g
reached_replicated g r = (reached_holds g r).replicated

pub reached_sets : (g : Group) → IsReached g → Each IsSet g.sets
reached_sets g r =
    let t = twin_of g r in
    let w : WholeGroup = whole_start t.reached.group t.reached.min_size t.reached.daemons t.reached.acting t.reached.up in
    let each : Each IsSet t.whole.sets = subst (λ (v : WholeGroup). Each IsSet v.sets) t.reached.is
    (run_sets t.reached.events w t.reached.fit (start_sets t.reached.group t.reached.min_size t.reached.daemons t.reached.acting t.reached.up t.reached.begins)) in
    subst (λ l. Each IsSet l) (lock_stands g t.whole t.lock).sets each

-- of any events, from any beginning

module _ (group : GroupId) (z count : ℕ) (acting up : List ℕ) (es : List Event) where
  abbrev whole : WholeGroup
  whole = whole_run es (whole_start group z count acting up)

  lock : Lock (run es (start group z count acting up)) whole
  lock = reached_locked group z count acting up es

  same : StandsFor (run es (start group z count acting up)) whole
  same = lock_stands (run es (start group z count acting up)) whole lock

  -- each request of the group was submitted by one of the events
  pub all_submitted : Each (HasSubmit es) (run es (start group z count acting up)).requests
  all_submitted = subst (λ l. Each (HasSubmit es) l) same.requests (whole_all_submitted group z count acting up es)

  pub run_legal : Legal (run es (start group z count acting up)).audit
  run_legal = subst Legal same.audit (audit_legal whole lock.good)

  -- each entry that was decided is of the request that was submitted under its number
  pub run_asked : InLog (IsAsked (run es (start group z count acting up)).requests) (run es (start group z count acting up)).audit
  run_asked = subst (λ l. InLog (IsAsked l) (run es (start group z count acting up)).audit) same.requests (subst (λ l. InLog (IsAsked whole.requests) l) same.audit lock.kept.asked.audit)

  -- each answer is the reply that was decided
  pub run_replied : Each (λ (a : Answer). IsReplied (run es (start group z count acting up)).audit a.id a.reply) (run es (start group z count acting up)).answers
  run_replied = (decided_held group z count acting up es).answers
