-- What a refused event leaves, and the sets that a group has.
use Rattle.std.proofs.Common.{ℕ, ◌≡◌, ◌-◌, Bool, true, false, ◌==◌, List, [], ◌∷◌, ◌++◌, map, length, refl, sym, subst, arith, if◌then◌else◌}
use Rattle.std.specs.Prelude.{Option, Some, None, slice_get}
use Rattle.entry_core.specs.Log.{is_in}
use Rattle.group_model_whole.specs.Types.{Daemon, Body, Interval, Query, Info, Install, Installed, Append, Appended, Request, Reply, NotHere, Party, Osd, Client, Sent}
use Rattle.group_model_whole.specs.Each.{Each}
use Rattle.store_core.specs.declared.sealed.GroupId.{GroupId}
use Rattle.group_model_whole.specs.Group.{Group, Event, Submit, Deliver, Lose, Repeat, NewInterval, Restart, Kick, Fault, NoMessage, Unreachable, Full, Doubled, last_set, is_answered, answered, copy_hears, arrives, without, deliver, lose, again, is_submitted, has_all_requests, has_all_intervals, take_request, refusal_to, refusal_at, missing_at, refusal_of, left_by, IsSet, EventFits, begin, with_up, same_set, group_step, run, start}
use Rattle.group_model_whole.specs.Steps.{restarted}
use Rattle.group_model_whole.proofs.Eaches.{Each-push, Each-get_or}

pub refused_leaves : (g : Group) (e : Event) (fault : Fault) → refusal_of g e ≡ Some fault → group_step g e ≡ left_by g e fault
refused_leaves g (Submit s) fault is = go (is_submitted g.requests s.id) (has_all_requests g) is
  where
    go : (b q : Bool) → (if b then Some Doubled else (if q then Some Full else None)) ≡ Some fault → (if b then g else (if q then g else take_request g s)) ≡ g
    go true q e = refl
    go false true e = refl
    go false false e = absurd (cc)
refused_leaves g (Deliver k) fault is = go (slice_get g.wire k) is
  where
    left-none : (f : Fault) → NoMessage k ≡ f → g ≡ left_by g (Deliver k) f
    left-none f same = subst (λ v. g ≡ left_by g (Deliver k) v) same refl

    to : (m : Sent) (p : Party) → refusal_to g p ≡ Some fault → arrives (without g k) m p ≡ left_by g (Deliver k) fault
    to m Client e = absurd (cc)
    to m (Osd d) e = up (is_in g.up d) e
      where
        up : (b : Bool) → (if b then None else Some Unreachable) ≡ Some fault → (if b then copy_hears (without g k) m d (slice_get g.copies d) else without g k) ≡ left_by g (Deliver k) fault
        up true e = absurd (cc)
        up false e = (let same : Unreachable ≡ fault = cc in subst (λ v. without g k ≡ left_by g (Deliver k) v) same refl)

    go : (found : Option Sent) → refusal_at g k found ≡ Some fault → deliver g k found ≡ left_by g (Deliver k) fault
    go None e = (let same : NoMessage k ≡ fault = cc in left-none fault same)
    go (Some m) e = to m m.to e
refused_leaves g (Lose k) fault is = go (slice_get g.wire k) is
  where
    go : (found : Option Sent) → missing_at k found ≡ Some fault → lose g k found ≡ g
    go None e = refl
    go (Some m) e = absurd (cc)
refused_leaves g (Repeat k) fault is = go (slice_get g.wire k) is
  where
    go : (found : Option Sent) → missing_at k found ≡ Some fault → again g found ≡ g
    go None e = refl
    go (Some m) e = absurd (cc)
refused_leaves g (NewInterval acting up) fault is = go (same_set acting (last_set g.sets)) (has_all_intervals g) is
  where
    go : (b q : Bool) → (if b then None else (if q then Some Full else None)) ≡ Some fault → (if b then with_up g up else (if q then g else begin (with_up g up) acting)) ≡ g
    go true q e = absurd (cc)
    go false true e = refl
    go false false e = absurd (cc)
refused_leaves g (Restart d) fault is = go (is_in (last_set g.sets) d) (has_all_intervals g) is
  where
    go : (b q : Bool) → (if b then (if q then Some Full else None) else None) ≡ Some fault →
        (if b then (if q then g else begin (record g { copies = map (λ c. if c.number == d then restarted c else c) g.copies }) (last_set g.sets)) else record g { copies = map (λ c. if c.number == d then restarted c else c) g.copies }) ≡ g
    go true true e = refl
    go true false e = absurd (cc)
    go false q e = absurd (cc)
refused_leaves g Kick fault is = absurd (cc)

-- sets

answered_sets : (g : Group) (b : Body) → (answered g b).sets ≡ g.sets
answered_sets g (Reply id reply) = go (is_answered g.answers id)
  where
    go : (b : Bool) → (if b then g else record g { answers = g.answers ++ record { id = id; reply = reply } ∷ [] }).sets ≡ g.sets
    go true = refl
    go false = refl
answered_sets g (Interval sets) = refl
answered_sets g (Query n) = refl
answered_sets g (Info n base log) = refl
answered_sets g (Install n log) = refl
answered_sets g (Installed n) = refl
answered_sets g (Append n place s) = refl
answered_sets g (Appended n place) = refl
answered_sets g (Request s) = refl
answered_sets g (NotHere id) = refl

arrives_sets : (g : Group) (m : Sent) (to : Party) → (arrives g m to).sets ≡ g.sets
arrives_sets g m Client = answered_sets g m.body
arrives_sets g m (Osd d) = go (is_in g.up d) (slice_get g.copies d)
  where
    go : (b : Bool) (found : Option Daemon) → (if b then copy_hears g m d found else g).sets ≡ g.sets
    go true None = refl
    go true (Some c) = refl
    go false found = refl

pub deliver_sets : (g : Group) (k : ℕ) (found : Option Sent) → (deliver g k found).sets ≡ g.sets
deliver_sets g k None = refl
deliver_sets g k (Some m) = arrives_sets (without g k) m m.to

empty_set : IsSet []
empty_set = record { few = omega arith; once = refl }

step_sets : (e : Event) (g : Group) → EventFits e → Each IsSet g.sets → Each IsSet (group_step g e).sets
step_sets (Submit s) g fits each = go (is_submitted g.requests s.id) (has_all_requests g)
  where
    go : (b q : Bool) → Each IsSet (if b then g else (if q then g else take_request g s)).sets
    go true q = each
    go false true = each
    go false false = each
step_sets (Deliver k) g fits each = subst (λ l. Each IsSet l) (sym (deliver_sets g k (slice_get g.wire k))) each
step_sets (Lose k) g fits each = go (slice_get g.wire k)
  where
    go : (found : Option Sent) → Each IsSet (lose g k found).sets
    go None = each
    go (Some m) = each
step_sets (Repeat k) g fits each = go (slice_get g.wire k)
  where
    go : (found : Option Sent) → Each IsSet (again g found).sets
    go None = each
    go (Some m) = each
step_sets (NewInterval acting up) g fits each = go (same_set acting (last_set g.sets)) (has_all_intervals g)
  where
    go : (b q : Bool) → Each IsSet (if b then with_up g up else (if q then g else begin (with_up g up) acting)).sets
    go true q = each
    go false true = each
    go false false = Each-push IsSet g.sets acting each fits
step_sets (Restart d) g fits each = go (is_in (last_set g.sets) d) (has_all_intervals g)
  where
    go : (b q : Bool) → Each IsSet (if b then (if q then g else begin (record g { copies = map (λ c. if c.number == d then restarted c else c) g.copies }) (last_set g.sets)) else record g { copies = map (λ c. if c.number == d then restarted c else c) g.copies }).sets
    go true true = each
    go true false = Each-push IsSet g.sets (last_set g.sets) each (Each-get_or IsSet g.sets (length g.sets - 1) [] each empty_set)
    go false q = each
step_sets Kick g fits each = each

pub run_sets : (es : List Event) (g : Group) → Each EventFits es → Each IsSet g.sets → Each IsSet (run es g).sets
run_sets [] g fits each = each
run_sets (e ∷ es) g fits each = run_sets es (group_step g e) fits.1 (step_sets e g fits.0 each)

pub start_sets : (group : GroupId) (z count : ℕ) (acting up : List ℕ) → IsSet acting → Each IsSet (start group z count acting up).sets
start_sets group z count acting up fits = (fits, tt)
