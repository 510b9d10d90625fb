-- Each request that a group holds was submitted under its number.
use Rattle.std.proofs.Common.{ℕ, ◌≡◌, Bool, true, false, ◌==◌, ◌&&◌, not, List, [], ◌∷◌, ◌++◌, map, take, refl, subst, if◌then◌else◌}
use Rattle.std.specs.Prelude.{Option, Some, None, slice_get}
use Rattle.std.specs.List.{filter}
use Rattle.entry_core.specs.Log.{is_in}
use Rattle.store_core.specs.Request.{Sealed}
use Rattle.store_core.specs.declared.entry.Entry.{Entry}
use Rattle.store_core.specs.declared.sealed.GroupId.{GroupId}
use Rattle.group_model_whole.specs.ActingSets.{daemons}
use Rattle.peer_core.specs.Steps.{blank, restarted}
use Rattle.peer_core.specs.Copy.{copy_step}
use Rattle.group_model_whole.specs.Each.{Each}
use Rattle.group_model_whole.specs.Asked.{IsAsked, InLog}
use Rattle.group_model_whole.proofs.Eaches.{Each-append, Each-map, Each-map_all, Each-weaker, Each-get, Each-set, Each-remove}
use Rattle.group_model_whole.specs.Group.{Group as WholeGroup, start as whole_start, group_step as whole_group_step}
use Rattle.group_model.proofs.Locked.{asked_push}
use Rattle.group_model.proofs.Lists.{Each-rest}
use Rattle.group_model.proofs.Twins.{twin_of, lock_stands, run_asked}
use Rattle.group_model.proofs.Events.{Lock, step_locked, start_locked}
use Rattle.group_model.specs.Types.{Role, Idle, Peering, Installing, Active, Offer, Copy, Body, Interval, Query, Info, Install, Installed, Append, Appended, Request, Reply, NotHere, Party, Osd, Client, Sent}
use Rattle.group_model.specs.Asked.{InRole, InCopy, InBody, AllAsked}
use Rattle.group_model.specs.Group.{Group, Event, Submit, Deliver, Lose, Repeat, NewInterval, Restart, Kick, Answer, last_set, is_answered, is_submitted, same_set, to_daemon, to_primary, answered, copy_hears, arrives, without, deliver, lose, again, has_all_requests, has_all_intervals, take_request, submit, resent, announced, begin, with_up, retransmit_from, retransmit_primary, group_step, run, start}
use Rattle.group_model.specs.Reached.{IsReached}
use Rattle.group_core.proofs.Asks.{comes_in, kicked_in}

kept_if : {X : Type 0} (P : X → Type 0) (b : Bool) (x : X) (xs : List X) → P x → Each P xs → Each P (if b then x ∷ xs else xs)
kept_if P true x xs this each = (this, each)
kept_if P false x xs this each = each

Each-filter : {X : Type 0} (P : X → Type 0) (f : X → Bool) (xs : List X) → Each P xs → Each P (filter f xs)
Each-filter P f [] each = tt
Each-filter P f (x ∷ xs) each = kept_if P (f x) x (filter f xs) each.0 (Each-filter P f xs each.1)

-- what copies and messages of a group hold
pub record Holds (P : Sealed → Type 0) (copies : List Copy) (wire : List Sent) : Type 0 where
  pub copies_hold : Each (InCopy P) copies
  pub wire_holds : Each (λ (m : Sent). InBody P m.body) wire

module _ (P : Sealed → Type 0) where
  more : (copies : List Copy) (wire sent : List Sent) → Holds P copies wire → Each (λ (m : Sent). InBody P m.body) sent → Holds P copies (wire ++ sent)
  more copies wire sent all new = record { copies_hold = all.copies_hold; wire_holds = Each-append (λ (m : Sent). InBody P m.body) wire sent all.wire_holds new }

  told_first : (ds : List ℕ) (requests : List Sealed) → Each P requests → Each (λ (m : Sent). InBody P m.body) (to_primary ds (map Request requests))
  told_first [] requests each = tt
  told_first (d ∷ ds) requests each = told requests each
    where
      told : (rs : List Sealed) → Each P rs → Each (λ (m : Sent). InBody P m.body) (map (to_daemon d) (map Request rs))
      told [] each = tt
      told (r ∷ rs) each = (each.0, told rs each.1)

  announced_all : (sets : List (List ℕ)) → Each (λ (m : Sent). InBody P m.body) (announced sets)
  announced_all sets = Each-map_all (λ (m : Sent). InBody P m.body) (λ d. to_daemon d (Interval sets)) (λ d. tt) (last_set sets)

  resent_all : (sets : List (List ℕ)) (requests : List Sealed) (answers : List Answer) → Each P requests → Each (λ (m : Sent). InBody P m.body) (resent sets requests answers)
  resent_all sets requests answers each = told_first (last_set sets) (filter (λ s. not (is_answered answers s.id)) requests) (Each-filter P (λ (s : Sealed). not (is_answered answers s.id)) requests each)

  restarts_all : (which : Copy → Bool) (copies : List Copy) (wire : List Sent) → Holds P copies wire → Holds P (map (λ c. if which c then restarted c else c) copies) wire
  restarts_all which copies wire all = record {
    copies_hold = Each-map (InCopy P) (InCopy P) (λ (c : Copy). if which c then restarted c else c) (λ c. one (which c) c) copies all.copies_hold;
    wire_holds = all.wire_holds;
  }
    where
      one : (b : Bool) (c : Copy) → InCopy P c → InCopy P (if b then restarted c else c)
      one true c ok = record { log = ok.log; waiting = tt; role = tt }
      one false c ok = ok

  kicked_first : (copies : List Copy) (ds : List ℕ) → Each (InCopy P) copies → Each (λ (m : Sent). InBody P m.body) (retransmit_primary copies ds)
  kicked_first copies [] each = tt
  kicked_first copies (d ∷ ds) each = found (slice_get copies d) refl
    where
      found : (c : Option Copy) → slice_get copies d ≡ c → Each (λ (m : Sent). InBody P m.body) (retransmit_from c)
      found None is = tt
      found (Some c) is = kicked_in P c (Each-get (InCopy P) copies d c each is)

-- the requests of a group, where each is asked

abbrev IsHolding : Group → Type 0
IsHolding g = Holds (IsAsked g.requests) g.copies g.wire

either : (b : Bool) (x y : Group) → IsHolding x → IsHolding y → IsHolding (if b then x else y)
either true x y p q = p
either false x y p q = q

hears_all : (g : Group) (m : Sent) (d : ℕ) (found : Option Copy) → slice_get g.copies d ≡ found → IsHolding g → InBody (IsAsked g.requests) m.body → IsHolding (copy_hears g m d found)
hears_all g m d None here all this = all
hears_all g m d (Some c) here all this =
    let next = comes_in (IsAsked g.requests) m.body c m.from (Each-get (InCopy (IsAsked g.requests)) g.copies d c all.copies_hold here) this in
    record {
      copies_hold = Each-set (InCopy (IsAsked g.requests)) g.copies d (copy_step c (record { from = m.from; body = m.body })).copy all.copies_hold next.copy;
      wire_holds = Each-append (λ (v : Sent). InBody (IsAsked g.requests) v.body) g.wire (copy_step c (record { from = m.from; body = m.body })).sent all.wire_holds next.sent;
    }

answered_all : (g : Group) (b : Body) → IsHolding g → IsHolding (answered g b)
answered_all g (Reply id reply) all = either (is_answered g.answers id) g (record g { answers = g.answers ++ record { id = id; reply = reply } ∷ [] }) all (record { copies_hold = all.copies_hold; wire_holds = all.wire_holds })
answered_all g (Interval sets) all = all
answered_all g (Query n len end) all = all
answered_all g (Info n base start part) all = all
answered_all g (Install n start part) all = all
answered_all g (Installed n) all = all
answered_all g (Append n place s) all = all
answered_all g (Appended n place) all = all
answered_all g (Request s) all = all
answered_all g (NotHere id) all = all

arrives_all : (g : Group) (m : Sent) (to : Party) → IsHolding g → InBody (IsAsked g.requests) m.body → IsHolding (arrives g m to)
arrives_all g m Client all this = answered_all g m.body all
arrives_all g m (Osd d) all this = either (is_in g.up d) (copy_hears g m d (slice_get g.copies d)) g (hears_all g m d (slice_get g.copies d) refl all this) all

without_all : (g : Group) (k : ℕ) → IsHolding g → IsHolding (without g k)
without_all g k all = record { copies_hold = all.copies_hold; wire_holds = Each-remove (λ (m : Sent). InBody (IsAsked g.requests) m.body) g.wire k all.wire_holds }

deliver_all : (g : Group) (k : ℕ) (found : Option Sent) → slice_get g.wire k ≡ found → IsHolding g → IsHolding (deliver g k found)
deliver_all g k None here all = all
deliver_all g k (Some m) here all = arrives_all (without g k) m m.to (without_all g k all) (Each-get (λ (v : Sent). InBody (IsAsked g.requests) v.body) g.wire k m all.wire_holds here)

lose_all : (g : Group) (k : ℕ) (found : Option Sent) → IsHolding g → IsHolding (lose g k found)
lose_all g k None all = all
lose_all g k (Some m) all = without_all g k all

again_all : (g : Group) (k : ℕ) (found : Option Sent) → slice_get g.wire k ≡ found → IsHolding g → IsHolding (again g found)
again_all g k None here all = all
again_all g k (Some m) here all = more (IsAsked g.requests) g.copies g.wire (m ∷ []) all (Each-get (λ (v : Sent). InBody (IsAsked g.requests) v.body) g.wire k m all.wire_holds here, tt)

begin_all : (g : Group) (acting : List ℕ) → Each (IsAsked g.requests) g.requests → IsHolding g → IsHolding (begin g acting)
begin_all g acting each all =
    more (IsAsked g.requests) g.copies (g.wire ++ announced (g.sets ++ acting ∷ [])) (resent (g.sets ++ acting ∷ []) g.requests g.answers)
    (more (IsAsked g.requests) g.copies g.wire (announced (g.sets ++ acting ∷ [])) all (announced_all (IsAsked g.requests) (g.sets ++ acting ∷ []))) (resent_all (IsAsked g.requests) (g.sets ++ acting ∷ []) g.requests g.answers each)

-- a fact that follows from another

module _ (P Q : Sealed → Type 0) (to : (s : Sealed) → P s → Q s) where
  log_weaker : (log : List Entry) → InLog P log → InLog Q log
  log_weaker log each = Each-weaker (λ (e : Entry). P e.sealed) (λ (e : Entry). Q e.sealed) (λ e. to e.sealed) log each

  role_weaker : (r : Role) → InRole P r → InRole Q r
  role_weaker Idle each = tt
  role_weaker (Peering informed) each = Each-weaker (λ (i : Offer). Each P i.part) (λ (i : Offer). Each Q i.part) (λ i. Each-weaker P Q to i.part) informed each
  role_weaker (Installing done common) each = tt
  role_weaker (Active flight) each = tt

  copy_weaker : (c : Copy) → InCopy P c → InCopy Q c
  copy_weaker c ok = record { log = log_weaker c.log ok.log; waiting = Each-weaker P Q to c.waiting ok.waiting; role = role_weaker c.role ok.role }

  body_weaker : (b : Body) → InBody P b → InBody Q b
  body_weaker (Interval sets) this = tt
  body_weaker (Query n len end) this = tt
  body_weaker (Info n base start part) this = Each-weaker P Q to part this
  body_weaker (Install n start part) this = Each-weaker P Q to part this
  body_weaker (Installed n) this = tt
  body_weaker (Append n place s) this = to s this
  body_weaker (Appended n place) this = tt
  body_weaker (Request s) this = to s this
  body_weaker (Reply id reply) this = tt
  body_weaker (NotHere id) this = tt

  holds_weaker : (copies : List Copy) (wire : List Sent) → Holds P copies wire → Holds Q copies wire
  holds_weaker copies wire all = record {
    copies_hold = Each-weaker (InCopy P) (InCopy Q) copy_weaker copies all.copies_hold;
    wire_holds = Each-weaker (λ (m : Sent). InBody P m.body) (λ (m : Sent). InBody Q m.body) (λ m. body_weaker m.body) wire all.wire_holds;
  }

-- a request is taken

submit_all : (g : Group) (s : Sealed) → Each (IsAsked (submit g s).requests) (submit g s).requests → IsHolding g → IsHolding (submit g s)
submit_all g s = go (is_submitted g.requests s.id) (has_all_requests g)
  where
    taken : Each (IsAsked (g.requests ++ s ∷ [])) (g.requests ++ s ∷ []) → IsHolding g → IsHolding (take_request g s)
    taken each all =
        more (IsAsked (g.requests ++ s ∷ [])) g.copies g.wire (to_primary (last_set g.sets) (Request s ∷ []))
        (holds_weaker (IsAsked g.requests) (IsAsked (g.requests ++ s ∷ [])) (λ t. asked_push g.requests s t) g.copies g.wire all)
        (told_first (IsAsked (g.requests ++ s ∷ [])) (last_set g.sets) (s ∷ []) (Each-rest (IsAsked (g.requests ++ s ∷ [])) g.requests (s ∷ []) each))

    go : (b q : Bool) → Each (IsAsked (if b then g else (if q then g else take_request g s)).requests) (if b then g else (if q then g else take_request g s)).requests → IsHolding g → IsHolding (if b then g else (if q then g else take_request g s))
    go true q each all = all
    go false true each all = all
    go false false each all = taken each all

-- any event

step_holding : (e : Event) (g : Group) → Each (IsAsked g.requests) g.requests → Each (IsAsked (group_step g e).requests) (group_step g e).requests → IsHolding g → IsHolding (group_step g e)
step_holding (Submit s) g each next all = submit_all g s next all
step_holding (Deliver k) g each next all = deliver_all g k (slice_get g.wire k) refl all
step_holding (Lose k) g each next all = lose_all g k (slice_get g.wire k) all
step_holding (Repeat k) g each next all = again_all g k (slice_get g.wire k) refl all
step_holding (NewInterval acting up) g each next all =
    let ready : IsHolding (with_up g up) = restarts_all (IsAsked g.requests) (λ c. is_in g.up c.number && not (is_in up c.number)) g.copies g.wire all in
    either (same_set acting (last_set g.sets)) (with_up g up) (if has_all_intervals g then g else begin (with_up g up) acting) ready (either (has_all_intervals g) g (begin (with_up g up) acting) all (begin_all (with_up g up) acting each ready))
step_holding (Restart d) g each next all =
    let h : Group = record g { copies = map (λ c. if c.number == d then restarted c else c) g.copies } in
    let ready : IsHolding h = restarts_all (IsAsked g.requests) (λ c. c.number == d) g.copies g.wire all in
    either (is_in (last_set g.sets) d) (if has_all_intervals g then g else begin h (last_set g.sets)) h (either (has_all_intervals g) g (begin h (last_set g.sets)) all (begin_all h (last_set g.sets) each ready)) ready
step_holding Kick g each next all =
    more (IsAsked g.requests) g.copies ((g.wire ++ announced g.sets) ++ retransmit_primary g.copies (last_set g.sets)) (resent g.sets g.requests g.answers)
    (more (IsAsked g.requests) g.copies (g.wire ++ announced g.sets) (retransmit_primary g.copies (last_set g.sets)) (more (IsAsked g.requests) g.copies g.wire (announced g.sets) all (announced_all (IsAsked g.requests) g.sets)) (kicked_first (IsAsked g.requests) g.copies (last_set g.sets) all.copies_hold))
    (resent_all (IsAsked g.requests) g.sets g.requests g.answers each)

asked_requests : (g : Group) (w : WholeGroup) → Lock g w → Each (IsAsked g.requests) g.requests
asked_requests g w l = subst (λ rs. Each (IsAsked rs) rs) (lock_stands g w l).requests l.kept.asked.requests

run_holding : (es : List Event) (g : Group) (w : WholeGroup) → Lock g w → IsHolding g → IsHolding (run es g)
run_holding [] g w l all = all
run_holding (e ∷ es) g w l all =
    let next = step_locked g w e l in
    run_holding es (group_step g e) (whole_group_step w e) next (step_holding e g (asked_requests g w l) (asked_requests (group_step g e) (whole_group_step w e) next) all)

start_holding : (group : GroupId) (z count : ℕ) (acting up : List ℕ) → IsHolding (start group z count acting up)
start_holding group z count acting up =
    let empty : Group = record { group = group; min_size = z; copies = map (blank z) (take count daemons); wire = []; sets = []; up = up; requests = []; answers = []; audit = [] } in
    begin_all empty acting tt (record { copies_hold = Each-map_all (InCopy (IsAsked [])) (blank z) (λ d. record { log = tt; waiting = tt; role = tt }) (take count daemons); wire_holds = tt })

pub reached_asked : (g : Group) → IsReached g → AllAsked g
reached_asked g r =
    let t = twin_of g r in
    let all : IsHolding g = subst IsHolding r.is (run_holding r.events (start r.group r.min_size r.daemons r.acting r.up) (whole_start r.group r.min_size r.daemons r.acting r.up) (start_locked r.group r.min_size r.daemons r.acting r.up) (start_holding r.group r.min_size r.daemons r.acting r.up)) in
    record {
      requests = asked_requests g t.whole t.lock;
      copies = all.copies_hold;
      wire = all.wire_holds;
      audit = subst (λ (v : Group). InLog (IsAsked v.requests) v.audit) r.is (run_asked r.group r.min_size r.daemons r.acting r.up r.events);
    }
