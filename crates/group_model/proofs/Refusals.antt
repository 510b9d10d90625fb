-- What a refused event leaves, and what a submission that is not refused makes.
use Rattle.std.proofs.Common.{◌≡◌, Bool, true, false, ◌==◌, map, refl, subst, if◌then◌else◌}
use Rattle.std.specs.Prelude.{Option, Some, None, slice_get}
use Rattle.entry_core.specs.Log.{is_in}
use Rattle.store_core.specs.Request.{Sealed}
use Rattle.group_model.specs.Types.{Party, Osd, Client, Sent}
use Rattle.group_model.specs.Group.{Group, Event, Submit, Deliver, Lose, Repeat, NewInterval, Restart, Kick, Fault, NoMessage, Unreachable, Full, Doubled, last_set, copy_hears, arrives, without, deliver, lose, again, is_submitted, has_all_requests, has_all_intervals, take_request, refusal_to, refusal_at, missing_at, refusal_of, left_by, begin, with_up, same_set, group_step}
use Rattle.peer_core.specs.Steps.{restarted}

pub refused_leaves : (g : Group) (e : Event) (fault : Fault) → refusal_of g e ≡ Some fault → group_step g e ≡ left_by g e fault
refused_leaves g (Submit s) fault is = go (is_submitted g.requests s.id) (has_all_requests g) is
  where
    go : (b q : Bool) → (if b then Some Doubled else (if q then Some Full else None)) ≡ Some fault → (if b then g else (if q then g else take_request g s)) ≡ g
    go true q e = refl
    go false true e = refl
    go false false e = absurd (cc)
refused_leaves g (Deliver k) fault is = go (slice_get g.wire k) is
  where
    left-none : (f : Fault) → NoMessage k ≡ f → g ≡ left_by g (Deliver k) f
    left-none f same = subst (λ v. g ≡ left_by g (Deliver k) v) same refl

    to : (m : Sent) (p : Party) → refusal_to g p ≡ Some fault → arrives (without g k) m p ≡ left_by g (Deliver k) fault
    to m Client e = absurd (cc)
    to m (Osd d) e = up (is_in g.up d) e
      where
        up : (b : Bool) → (if b then None else Some Unreachable) ≡ Some fault → (if b then copy_hears (without g k) m d (slice_get g.copies d) else without g k) ≡ left_by g (Deliver k) fault
        up true e = absurd (cc)
        up false e = (let same : Unreachable ≡ fault = cc in subst (λ v. without g k ≡ left_by g (Deliver k) v) same refl)

    go : (found : Option Sent) → refusal_at g k found ≡ Some fault → deliver g k found ≡ left_by g (Deliver k) fault
    go None e = (let same : NoMessage k ≡ fault = cc in left-none fault same)
    go (Some m) e = to m m.to e
refused_leaves g (Lose k) fault is = go (slice_get g.wire k) is
  where
    go : (found : Option Sent) → missing_at k found ≡ Some fault → lose g k found ≡ g
    go None e = refl
    go (Some m) e = absurd (cc)
refused_leaves g (Repeat k) fault is = go (slice_get g.wire k) is
  where
    go : (found : Option Sent) → missing_at k found ≡ Some fault → again g found ≡ g
    go None e = refl
    go (Some m) e = absurd (cc)
refused_leaves g (NewInterval acting up) fault is = go (same_set acting (last_set g.sets)) (has_all_intervals g) is
  where
    go : (b q : Bool) → (if b then None else (if q then Some Full else None)) ≡ Some fault → (if b then with_up g up else (if q then g else begin (with_up g up) acting)) ≡ g
    go true q e = absurd (cc)
    go false true e = refl
    go false false e = absurd (cc)
refused_leaves g (Restart d) fault is = go (is_in (last_set g.sets) d) (has_all_intervals g) is
  where
    go : (b q : Bool) → (if b then (if q then Some Full else None) else None) ≡ Some fault →
        (if b then (if q then g else begin (record g { copies = map (λ c. if c.number == d then restarted c else c) g.copies }) (last_set g.sets)) else record g { copies = map (λ c. if c.number == d then restarted c else c) g.copies }) ≡ g
    go true true e = refl
    go true false e = absurd (cc)
    go false q e = absurd (cc)
refused_leaves g Kick fault is = absurd (cc)

pub opens_is : (before : Group) (s : Sealed) → refusal_of before (Submit s) ≡ None → group_step before (Submit s) ≡ take_request before s
opens_is before s free = go (is_submitted before.requests s.id) (has_all_requests before) free
  where
    go : (b q : Bool) → (if b then Some Doubled else (if q then Some Full else None)) ≡ None → (if b then before else (if q then before else take_request before s)) ≡ take_request before s
    go true q e = absurd (cc)
    go false true e = absurd (cc)
    go false false e = refl
