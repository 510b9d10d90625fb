-- What holds of each group that there can be.
use Rattle.std.proofs.Common.{ℕ, ◌≡◌, ◌≤◌, Bool, true, false, ◌==◌, List, [], ◌∷◌, ◌++◌, map, length, take, refl, ◌∙◌, ap, subst, if◌then◌else◌}
use Rattle.std.specs.Prelude.{Option, Some, None, slice_get}
use Rattle.entry_core.specs.Log.{is_in}
use Rattle.store_core.specs.declared.sealed.GroupId.{GroupId}
use Rattle.group_model_whole.specs.Steps.{restarted}
use Rattle.group_model_whole.specs.Types.{Daemon, Body, Interval, Query, Info, Install, Installed, Append, Appended, Request, Reply, NotHere, Party, Osd, Client, Sent}
use Rattle.group_model_whole.specs.Group.{Group, Event, Submit, Deliver, Lose, Repeat, NewInterval, Restart, Kick, last_set, is_answered, answered, copy_hears, arrives, without, deliver, lose, again, is_submitted, has_all_requests, has_all_intervals, take_request, begin, with_up, same_set, group_step, run, start, IsSet, EventFits}
use Rattle.group_model_whole.specs.Furthest.{furthest}
use Rattle.group_model_whole.specs.Reached.{IsReached}
use Rattle.group_model_whole.proofs.Eaches.{Each-append}
use Rattle.group_model_whole.proofs.Groups.{Good, run_good, start_good, run-append}
use Rattle.group_model_whole.proofs.Kept.{Kept, run_kept, start_kept}
use Rattle.group_model_whole.specs.Sane.{AllSane}
use Rattle.group_model_whole.proofs.SaneGroups.{run_sane, start_sane}
use Rattle.group_model_whole.proofs.Settles.{Bounded, run_bounded}
use Rattle.group_model_whole.proofs.FarCopies.{audit_furthest, audit_fits}

-- no event changes which group it is, nor its least size

module _ (Q : GroupId → ℕ → Type 0) where
  abbrev Named : Group → Type 0
  Named g = Q g.group g.min_size

  named_if : (b : Bool) (x y : Group) → Named x → Named y → Named (if b then x else y)
  named_if true x y p q = p
  named_if false x y p q = q

  answered_named : (g : Group) (b : Body) → Named g → Named (answered g b)
  answered_named g (Reply id reply) is = named_if (is_answered g.answers id) g (record g { answers = g.answers ++ record { id = id; reply = reply } ∷ [] }) is is
  answered_named g (Interval sets) is = is
  answered_named g (Query i) is = is
  answered_named g (Info i base log) is = is
  answered_named g (Install i log) is = is
  answered_named g (Installed i) is = is
  answered_named g (Append i place s) is = is
  answered_named g (Appended i place) is = is
  answered_named g (Request s) is = is
  answered_named g (NotHere id) is = is

  hears_named : (g : Group) (m : Sent) (d : ℕ) (found : Option Daemon) → Named g → Named (copy_hears g m d found)
  hears_named g m d None is = is
  hears_named g m d (Some c) is = is

  arrives_named : (g : Group) (m : Sent) (to : Party) → Named g → Named (arrives g m to)
  arrives_named g m Client is = answered_named g m.body is
  arrives_named g m (Osd d) is = named_if (is_in g.up d) (copy_hears g m d (slice_get g.copies d)) g (hears_named g m d (slice_get g.copies d) is) is

  pub step_named : (e : Event) (g : Group) → Named g → Named (group_step g e)
  step_named (Submit s) g is = named_if (is_submitted g.requests s.id) g (if has_all_requests g then g else take_request g s) is (named_if (has_all_requests g) g (take_request g s) is is)
  step_named (Deliver k) g is = go (slice_get g.wire k)
    where
      go : (found : Option Sent) → Named (deliver g k found)
      go None = is
      go (Some m) = arrives_named (without g k) m m.to is
  step_named (Lose k) g is = go (slice_get g.wire k)
    where
      go : (found : Option Sent) → Named (lose g k found)
      go None = is
      go (Some m) = is
  step_named (Repeat k) g is = go (slice_get g.wire k)
    where
      go : (found : Option Sent) → Named (again g found)
      go None = is
      go (Some m) = is
  step_named (NewInterval acting up) g is = named_if (same_set acting (last_set g.sets)) (with_up g up) (if has_all_intervals g then g else begin (with_up g up) acting) is
      (named_if (has_all_intervals g) g (begin (with_up g up) acting) is is)
  step_named (Restart d) g is =
      named_if (is_in (last_set g.sets) d) (if has_all_intervals g then g else begin (record g { copies = map (λ c. if c.number == d then restarted c else c) g.copies }) (last_set g.sets)) (record g { copies = map (λ c. if c.number == d then restarted c else c) g.copies })
      (named_if (has_all_intervals g) g (begin (record g { copies = map (λ c. if c.number == d then restarted c else c) g.copies }) (last_set g.sets)) is is) is
  step_named Kick g is = is

  pub run_named : (es : List Event) (g : Group) → Named g → Named (run es g)
  run_named [] g is = is
  run_named (e ∷ es) g is = run_named es (group_step g e) (step_named e g is)

pub reached_least : (g : Group) → IsReached g → 1 ≤ g.min_size
reached_least g r = subst (λ v. 1 ≤ v.min_size) r.is (run_named (λ group z. 1 ≤ z) r.events (start r.group r.min_size r.daemons r.acting r.up) r.least)

pub reached_good : (g : Group) → IsReached g → Good g
reached_good g r = subst Good r.is (run_good r.events (start r.group r.min_size r.daemons r.acting r.up) (start_good r.group r.min_size r.daemons r.acting r.up))

pub reached_kept : (g : Group) → IsReached g → Kept g
reached_kept g r = subst Kept r.is (run_kept r.events (start r.group r.min_size r.daemons r.acting r.up) (start_good r.group r.min_size r.daemons r.acting r.up) (start_kept r.group r.min_size r.daemons r.acting r.up))

pub reached_sane : (g : Group) → IsReached g → AllSane g
reached_sane g r = subst AllSane r.is (run_sane r.events (start r.group r.min_size r.daemons r.acting r.up) (start_sane r.group r.min_size r.daemons r.acting r.up))

pub reached_bounded : (g : Group) → IsReached g → Bounded g
reached_bounded g r = subst Bounded r.is (run_bounded r.group r.min_size r.daemons r.acting r.up r.events r.begins r.fit)

pub reached_audit : (g : Group) → IsReached g → g.audit ≡ take (length g.audit) (furthest g.copies)
reached_audit g r = audit_furthest g (reached_good g r) (reached_least g r)

pub reached_fits : (g : Group) → IsReached g → length g.audit ≤ length (furthest g.copies)
reached_fits g r = audit_fits g (reached_good g r) (reached_least g r)

-- the next group is one too
pub reached_step : (g : Group) (e : Event) → IsReached g → EventFits e → IsReached (group_step g e)
reached_step g e r fits = record {
  group = r.group;
  min_size = r.min_size;
  daemons = r.daemons;
  acting = r.acting;
  up = r.up;
  events = r.events ++ e ∷ [];
  least = r.least;
  begins = r.begins;
  fit = Each-append EventFits r.events (e ∷ []) r.fit (fits, tt);
  is = run-append r.events (e ∷ []) (start r.group r.min_size r.daemons r.acting r.up) ∙ ap (λ v. group_step v e) r.is;
}

pub reached_start : (group : GroupId) (z count : ℕ) (acting up : List ℕ) → 1 ≤ z → IsSet acting → IsReached (start group z count acting up)
reached_start group z count acting up least fits = record {
  group = group;
  min_size = z;
  daemons = count;
  acting = acting;
  up = up;
  events = [];
  least = least;
  begins = fits;
  fit = tt;
  is = refl;
}
