-- What every group of a world keeps, and what one group's part of an event does to it.
use Rattle.std.proofs.Common.{◌≡◌, ◌∙◌, ℕ, ◌==◌, List, [], ◌∷◌, ◌++◌, Bool, true, false, if◌then◌else◌, Option, Some, None, map, refl, sym, ap, subst}
use Rattle.std.specs.Prelude.{slice_get}
use Rattle.store_core.specs.Request.{Sealed}
use Rattle.entry_core.specs.Log.{Legal, is_in}
use Rattle.store_core.specs.declared.sealed.GroupId.{GroupId}
use Rattle.peer_core.specs.Steps.{restarted}
use Rattle.group_model.specs.Types.{Daemon, Body, Interval, Query, Info, Install, Installed, Append, Appended, Request, Reply, NotHere, Party, Osd, Client, Sent}
use Rattle.group_model_whole.specs.Each.{Each}
use Rattle.group_model_whole.specs.Asked.{IsAsked, HasSubmit, InLog}
use Rattle.group_model.specs.Group.{Group, Event, Submit, Deliver, Lose, Repeat, NewInterval, Restart, Kick, last_set, is_answered, answered, copy_hears, arrives, without, deliver, lose, again, is_submitted, has_all_requests, has_all_intervals, take_request, begin, with_up, same_set, group_step, run, start, submitted}
use Rattle.group_model.proofs.Runs.{run-append}
use Rattle.group_model.proofs.Twins.{run_legal, run_asked, all_submitted}
use Rattle.entry_core.specs.Locality.{group_for}
pub use Rattle.world_core.specs.Sound.{Submits, Stands}

-- no event changes which group it is

abbrev Is : GroupId → Group → Type 0
Is id g = g.group ≡ id

is_if : (id : GroupId) (b : Bool) (x y : Group) → Is id x → Is id y → Is id (if b then x else y)
is_if id true x y p q = p
is_if id false x y p q = q

is_answered_body : (id : GroupId) (g : Group) (b : Body) → Is id g → Is id (answered g b)
is_answered_body id g (Reply r reply) is = is_if id (is_answered g.answers r) g (record g { answers = g.answers ++ record { id = r; reply = reply } ∷ [] }) is is
is_answered_body id g (Interval sets) is = is
is_answered_body id g (Query i len end) is = is
is_answered_body id g (Info i base from part) is = is
is_answered_body id g (Install i from part) is = is
is_answered_body id g (Installed i) is = is
is_answered_body id g (Append i place s) is = is
is_answered_body id g (Appended i place) is = is
is_answered_body id g (Request s) is = is
is_answered_body id g (NotHere r) is = is

is_hears : (id : GroupId) (g : Group) (m : Sent) (d : ℕ) (found : Option Daemon) → Is id g → Is id (copy_hears g m d found)
is_hears id g m d None is = is
is_hears id g m d (Some c) is = is

is_arrives : (id : GroupId) (g : Group) (m : Sent) (to : Party) → Is id g → Is id (arrives g m to)
is_arrives id g m Client is = is_answered_body id g m.body is
is_arrives id g m (Osd d) is = is_if id (is_in g.up d) (copy_hears g m d (slice_get g.copies d)) g (is_hears id g m d (slice_get g.copies d) is) is

is_delivered : (id : GroupId) (g : Group) (k : ℕ) (found : Option Sent) → Is id g → Is id (deliver g k found)
is_delivered id g k None is = is
is_delivered id g k (Some m) is = is_arrives id (without g k) m m.to is

is_lost : (id : GroupId) (g : Group) (k : ℕ) (found : Option Sent) → Is id g → Is id (lose g k found)
is_lost id g k None is = is
is_lost id g k (Some m) is = is

is_again : (id : GroupId) (g : Group) (found : Option Sent) → Is id g → Is id (again g found)
is_again id g None is = is
is_again id g (Some m) is = is

pub step_is : (id : GroupId) (e : Event) (g : Group) → Is id g → Is id (group_step g e)
step_is id (Submit s) g is = is_if id (is_submitted g.requests s.id) g (if has_all_requests g then g else take_request g s) is (is_if id (has_all_requests g) g (take_request g s) is is)
step_is id (Deliver k) g is = is_delivered id g k (slice_get g.wire k) is
step_is id (Lose k) g is = is_lost id g k (slice_get g.wire k) is
step_is id (Repeat k) g is = is_again id g (slice_get g.wire k) is
step_is id (NewInterval acting up) g is = is_if id (same_set acting (last_set g.sets)) (with_up g up) (if has_all_intervals g then g else begin (with_up g up) acting) is
    (is_if id (has_all_intervals g) g (begin (with_up g up) acting) is is)
step_is id (Restart d) g is =
    is_if id (is_in (last_set g.sets) d) (if has_all_intervals g then g else begin (record g { copies = map (λ c. if c.number == d then restarted c else c) g.copies }) (last_set g.sets)) (record g { copies = map (λ c. if c.number == d then restarted c else c) g.copies })
    (is_if id (has_all_intervals g) g (begin (record g { copies = map (λ c. if c.number == d then restarted c else c) g.copies }) (last_set g.sets)) is is) is
step_is id Kick g is = is

-- a group that some events made, of which each submission is one of these, for this group

pub stands_step : (submissions : List Sealed) (g : Group) (e : Event) → Stands submissions g → Submits submissions g.group e → Stands submissions (group_step g e)
stands_step submissions g e h new =
    let same : (group_step g e).group ≡ g.group = step_is g.group e g refl in
    let P : GroupId → Type 0 = λ id. Each (Submits submissions id) (h.events ++ e ∷ []) in
    record {
      min_size = h.min_size;
      count = h.count;
      acting = h.acting;
      up = h.up;
      events = h.events ++ e ∷ [];
      submits = subst P (sym same) (each_push (Submits submissions g.group) h.events e h.submits new);
      is = ap (λ id. run (h.events ++ e ∷ []) (start id h.min_size h.count h.acting h.up)) same
          ∙ run-append h.events (e ∷ []) (start g.group h.min_size h.count h.acting h.up)
          ∙ ap (λ v. group_step v e) h.is;
    }
  where
    each_push : (P : Event → Type 0) (xs : List Event) (x : Event) → Each P xs → P x → Each P (xs ++ x ∷ [])
    each_push P [] x h p = (p, tt)
    each_push P (y ∷ ys) x h p = (h.0, each_push P ys x h.1 p)

pub stands_legal : (submissions : List Sealed) (g : Group) → Stands submissions g → Legal g.audit
stands_legal submissions g h =
    subst (λ v. Legal v.audit) h.is (run_legal g.group h.min_size h.count h.acting h.up h.events)

-- what was submitted under a number is one of the requests
pub found_each : (P : Sealed → Type 0) (rs : List Sealed) (id : ℕ) (s : Sealed) → Each P rs → submitted rs id ≡ Some s → P s
found_each P [] id s h is = absurd (cc)
found_each P (r ∷ rs) id s h is = go (r.id == id) is (λ more. found_each P rs id s h.1 more)
  where
    go : (b : Bool) → (if b then Some r else submitted rs id) ≡ Some s → (submitted rs id ≡ Some s → P s) → P s
    go true one rest = let same : r ≡ s = cc in subst P same h.0
    go false more rest = rest more

submitted_in : (submissions : List Sealed) (id : GroupId) (events before after : List Event) (s : Sealed) → before ++ Submit s ∷ after ≡ events → Each (Submits submissions id) events → Submits submissions id (Submit s)
submitted_in submissions id events before after s is h = middle before (subst (Each (Submits submissions id)) (sym is) h)
  where
    middle : (xs : List Event) → Each (Submits submissions id) (xs ++ Submit s ∷ after) → Submits submissions id (Submit s)
    middle [] k = k.0
    middle (x ∷ xs) k = middle xs k.1

each_map : {X : Type 0} (P Q : X → Type 0) → ((x : X) → P x → Q x) → (xs : List X) → Each P xs → Each Q xs
each_map P Q f [] h = tt
each_map P Q f (x ∷ xs) h = (f x h.0, each_map P Q f xs h.1)

-- each entry that such a group decided is of a submission for this group
pub stands_asked : (submissions : List Sealed) (g : Group) → Stands submissions g → Each (λ e. IsAsked submissions e.sealed × (group_for e.sealed ≡ g.group)) g.audit
stands_asked submissions g h =
    let made : Group = run h.events (start g.group h.min_size h.count h.acting h.up) in
    let from : Each (HasSubmit h.events) made.requests = all_submitted g.group h.min_size h.count h.acting h.up h.events in
    let asked : InLog (IsAsked made.requests) made.audit = run_asked g.group h.min_size h.count h.acting h.up h.events in
    let P : Group → Type 0 = λ v. Each (λ e. IsAsked submissions e.sealed × (group_for e.sealed ≡ g.group)) v.audit in
    subst P h.is (each_map (λ e. IsAsked made.requests e.sealed) (λ e. IsAsked submissions e.sealed × (group_for e.sealed ≡ g.group))
    (λ e a. let f = found_each (HasSubmit h.events) made.requests e.sealed.id e.sealed from a in submitted_in submissions g.group h.events f.before f.after e.sealed f.whole h.submits) made.audit asked)
