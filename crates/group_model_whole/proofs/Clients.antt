-- What holds of a group's requests and answers stays, where answers that come and requests that are submitted leave it.
use Rattle.std.proofs.Common.{Bool, true, false, ◌==◌, List, [], ◌∷◌, ◌++◌, map, if◌then◌else◌, ℕ}
use Rattle.std.specs.Prelude.{Option, Some, None, slice_get}
use Rattle.entry_core.specs.Log.{is_in}
use Rattle.store_core.specs.Request.{Sealed}
use Rattle.group_model_whole.specs.Steps.{restarted}
use Rattle.group_model_whole.specs.Types.{Daemon, Body, Interval, Query, Info, Install, Installed, Append, Appended, Request, Reply, NotHere, Party, Osd, Client, Sent}
use Rattle.group_model_whole.specs.Each.{Each}
use Rattle.group_model_whole.specs.Group.{Group, Answer, Event, Submit, Deliver, Lose, Repeat, NewInterval, Restart, Kick, last_set, is_answered, answered, copy_hears, arrives, without, deliver, lose, again, is_submitted, has_all_requests, has_all_intervals, take_request, begin, with_up, same_set, group_step, run}

module _ (Q : List Sealed → List Answer → Type 0) (hears : (requests : List Sealed) (answers : List Answer) (a : Answer) → Q requests answers → Q requests (answers ++ a ∷ [])) where
  abbrev Holds : Group → Type 0
  Holds g = Q g.requests g.answers

  -- the request that the event submits leaves it
  abbrev pub Takes : Event → Type 0
  Takes (Submit s) = (requests : List Sealed) (answers : List Answer) → Q requests answers → Q (requests ++ s ∷ []) answers
  Takes (Deliver k) = Unit {0}
  Takes (Lose k) = Unit {0}
  Takes (Repeat k) = Unit {0}
  Takes (NewInterval acting up) = Unit {0}
  Takes (Restart d) = Unit {0}
  Takes Kick = Unit {0}

  holds_if : (b : Bool) (x y : Group) → Holds x → Holds y → Holds (if b then x else y)
  holds_if true x y p q = p
  holds_if false x y p q = q

  answered_holds : (g : Group) (b : Body) → Holds g → Holds (answered g b)
  answered_holds g (Reply i r) is = holds_if (is_answered g.answers i) g (record g { answers = g.answers ++ record { id = i; reply = r } ∷ [] }) is (hears g.requests g.answers (record { id = i; reply = r }) is)
  answered_holds g (Interval sets) is = is
  answered_holds g (Query n) is = is
  answered_holds g (Info n base log) is = is
  answered_holds g (Install n log) is = is
  answered_holds g (Installed n) is = is
  answered_holds g (Append n place s) is = is
  answered_holds g (Appended n place) is = is
  answered_holds g (Request s) is = is
  answered_holds g (NotHere i) is = is

  hears_holds : (g : Group) (m : Sent) (d : ℕ) (found : Option Daemon) → Holds g → Holds (copy_hears g m d found)
  hears_holds g m d None is = is
  hears_holds g m d (Some c) is = is

  arrives_holds : (g : Group) (m : Sent) (to : Party) → Holds g → Holds (arrives g m to)
  arrives_holds g m Client is = answered_holds g m.body is
  arrives_holds g m (Osd d) is = holds_if (is_in g.up d) (copy_hears g m d (slice_get g.copies d)) g (hears_holds g m d (slice_get g.copies d) is) is

  pub step_holds : (e : Event) (g : Group) → Takes e → Holds g → Holds (group_step g e)
  step_holds (Submit s) g takes is = holds_if (is_submitted g.requests s.id) g (if has_all_requests g then g else take_request g s) is (holds_if (has_all_requests g) g (take_request g s) is (takes g.requests g.answers is))
  step_holds (Deliver k) g takes is = go (slice_get g.wire k)
    where
      go : (found : Option Sent) → Holds (deliver g k found)
      go None = is
      go (Some m) = arrives_holds (without g k) m m.to is
  step_holds (Lose k) g takes is = go (slice_get g.wire k)
    where
      go : (found : Option Sent) → Holds (lose g k found)
      go None = is
      go (Some m) = is
  step_holds (Repeat k) g takes is = go (slice_get g.wire k)
    where
      go : (found : Option Sent) → Holds (again g found)
      go None = is
      go (Some m) = is
  step_holds (NewInterval acting up) g takes is = holds_if (same_set acting (last_set g.sets)) (with_up g up) (if has_all_intervals g then g else begin (with_up g up) acting) is
      (holds_if (has_all_intervals g) g (begin (with_up g up) acting) is is)
  step_holds (Restart d) g takes is = holds_if (is_in (last_set g.sets) d) (if has_all_intervals g then g else begin (record g { copies = map (λ c. if c.number == d then restarted c else c) g.copies }) (last_set g.sets)) (record g { copies = map (λ c. if c.number == d then restarted c else c) g.copies })
      (holds_if (has_all_intervals g) g (begin (record g { copies = map (λ c. if c.number == d then restarted c else c) g.copies }) (last_set g.sets)) is is) is
  step_holds Kick g takes is = is

  pub run_holds : (es : List Event) (g : Group) → Each Takes es → Holds g → Holds (run es g)
  run_holds [] g each is = is
  run_holds (e ∷ es) g each is = run_holds es (group_step g e) each.1 (step_holds e g each.0 is)
