-- Each event keeps it: an entry goes from the first of its interval's set to another member.
use Rattle.std.proofs.Common.{ℕ, zero, suc, ◌≡◌, ◌<◌, ◌-◌, Bool, true, false, ◌==◌, List, [], ◌∷◌, ◌++◌, map, length, take, get_or, refl, sym, ◌∙◌, subst, arith, if◌then◌else◌}
use Rattle.std.specs.Prelude.{Option, Some, None, slice_get}
use Rattle.std.proofs.Math.ListN.{get_or-append}
use Rattle.std.proofs.lemmas.Bool.{both_ways}
use Rattle.entry_core.specs.Log.{is_in}
use Rattle.store_core.specs.Request.{Sealed}
use Rattle.store_core.specs.declared.sealed.GroupId.{GroupId}
use Rattle.group_model_whole.specs.Copy.{copy_step}
use Rattle.group_model_whole.specs.ActingSets.{daemons, set_of, is_primary}
use Rattle.group_model_whole.specs.Steps.{blank, restarted}
use Rattle.group_model_whole.specs.Types.{Role, Idle, Peering, Installing, Active, Daemon, Body, Interval, Query, Info, Install, Installed, Append, Appended, Request, Reply, NotHere, Party, Osd, Client, Sent}
use Rattle.group_model_whole.specs.Each.{Each}
use Rattle.group_model_whole.specs.Group.{Group, Event, Submit, Deliver, Lose, Repeat, NewInterval, Restart, Kick, last_set, is_answered, open_requests, to_daemon, to_primary, retransmit_from, answered, copy_hears, arrives, without, deliver, lose, again, is_submitted, has_all_requests, has_all_intervals, take_request, resent_by, announced_by, begin, with_up, same_set, retransmit_of, kick, group_step, run, start}
use Rattle.group_model_whole.specs.Laws.{GoesToOther, AppendsGoToOthers}
use Rattle.group_model_whole.specs.Reached.{IsReached}
use Rattle.group_model_whole.proofs.Eaches.{Each-append, Each-push, Each-remove, Each-get, Each-map_all, Each-weaker}
use Rattle.group_model_whole.proofs.Invariant.{RoleOk, SentOk}
use Rattle.group_model_whole.proofs.Groups.{Good, without_good, step_good, start_good}
use Rattle.group_model_whole.proofs.Reached.{reached_good}
use Rattle.group_model_whole.proofs.RecoveryMoves.{osd_same}
use Rattle.group_model_whole.proofs.Appends.{BodyGoes, SentGoes, comes_goes, kicked_goes}

abbrev AllGo : Group → Type 0
AllGo g = Each (SentGoes g.sets) g.wire

-- one more interval

-- only an existing interval has a primary
first_within : (sets : List (List ℕ)) (k d : ℕ) → is_primary (get_or sets k []) d ≡ true → k < length sets
first_within [] k d is = absurd (both_ways false refl is)
first_within (s ∷ sets) zero d is = omega arith
first_within (s ∷ sets) (suc k) d is = (let rest = first_within sets k d is in omega arith)

goes_longer : (sets : List (List ℕ)) (acting : List ℕ) (n : ℕ) (from to : Party) → GoesToOther sets n from to → GoesToOther (sets ++ acting ∷ []) n from to
goes_longer sets acting n from to g =
    let same : set_of sets n ≡ set_of (sets ++ acting ∷ []) n = sym (get_or-append sets (acting ∷ []) [] (n - 1) (first_within sets (n - 1) g.primary g.first)) in
    record {
      later = g.later;
      primary = g.primary;
      member = g.member;
      is_from = g.is_from;
      is_to = g.is_to;
      first = subst (λ v. is_primary v g.primary ≡ true) same g.first;
      is_member = subst (λ v. is_in v g.member ≡ true) same g.is_member;
      other = subst (λ v. is_primary v g.member ≡ false) same g.other;
    }

body_longer : (sets : List (List ℕ)) (acting : List ℕ) (from to : Party) (b : Body) → BodyGoes sets from to b → BodyGoes (sets ++ acting ∷ []) from to b
body_longer sets acting from to (Interval known) goes = tt
body_longer sets acting from to (Query n) goes = tt
body_longer sets acting from to (Info n base log) goes = tt
body_longer sets acting from to (Install n log) goes = tt
body_longer sets acting from to (Installed n) goes = tt
body_longer sets acting from to (Append n place s) goes = goes_longer sets acting n from to goes
body_longer sets acting from to (Appended n place) goes = tt
body_longer sets acting from to (Request s) goes = tt
body_longer sets acting from to (Reply id reply) goes = tt
body_longer sets acting from to (NotHere id) goes = tt

-- what the group itself sends

announce_goes : (sets : List (List ℕ)) (g : Group) → Each (SentGoes sets) (announced_by g)
announce_goes sets g = Each-map_all (SentGoes sets) (λ d. to_daemon d (Interval g.sets)) (λ d. tt) (last_set g.sets)

tell_first_goes : (sets : List (List ℕ)) (ds : List ℕ) (requests : List Sealed) → Each (SentGoes sets) (to_primary ds (map Request requests))
tell_first_goes sets [] requests = tt
tell_first_goes sets (d ∷ ds) requests = told requests
  where
    told : (rs : List Sealed) → Each (SentGoes sets) (map (to_daemon d) (map Request rs))
    told [] = tt
    told (r ∷ rs) = (tt, told rs)

begin_goes : (g : Group) (acting : List ℕ) → AllGo g → AllGo (begin g acting)
begin_goes g acting go =
    let after : Group = record g { sets = g.sets ++ acting ∷ [] } in
    Each-append (SentGoes after.sets) (g.wire ++ announced_by after) (resent_by after)
    (Each-append (SentGoes after.sets) g.wire (announced_by after) (Each-weaker (SentGoes g.sets) (SentGoes after.sets) (λ m. body_longer g.sets acting m.from m.to m.body) g.wire go) (announce_goes after.sets after))
    (tell_first_goes after.sets (last_set after.sets) (open_requests after))

kick_first_goes : (g : Group) → Good g → (ds : List ℕ) → Each (SentGoes g.sets) (retransmit_of g ds)
kick_first_goes g good [] = tt
kick_first_goes g good (d ∷ ds) = found (slice_get g.copies d) refl
  where
    found : (c : Option Daemon) → slice_get g.copies d ≡ c → Each (SentGoes g.sets) (retransmit_from c)
    found None is = tt
    found (Some c) is = kicked_goes g.min_size g.sets good.promise good.h d c (good.copies d c is).state c.role (good.copies d c is).role

kick_goes : (g : Group) → Good g → AllGo g → AllGo (kick g)
kick_goes g good go = Each-append (SentGoes g.sets) (g.wire ++ announced_by g ++ retransmit_of g (last_set g.sets)) (resent_by g)
    (Each-append (SentGoes g.sets) (g.wire ++ announced_by g) (retransmit_of g (last_set g.sets))
    (Each-append (SentGoes g.sets) g.wire (announced_by g) go (announce_goes g.sets g)) (kick_first_goes g good (last_set g.sets)))
    (tell_first_goes g.sets (last_set g.sets) (open_requests g))

-- a message arrives

by_test : (b : Bool) (x y : Group) → AllGo x → AllGo y → AllGo (if b then x else y)
by_test true x y p q = p
by_test false x y p q = q

hears_goes : (g : Group) (m : Sent) (d : ℕ) (found : Option Daemon) (good : Good g) → slice_get g.copies d ≡ found → SentOk g.sets good.promise good.h m → AllGo g → AllGo (copy_hears g m d found)
hears_goes g m d None good is ok go = go
hears_goes g m d (Some c) good is ok go = Each-append (SentGoes g.sets) g.wire (copy_step c (record { from = m.from; body = m.body })).sent go
    (comes_goes g.min_size g.sets good.promise good.h d c (good.copies d c is).state m.body m.from (good.copies d c is).role ok)

answered_goes : (g : Group) (b : Body) → AllGo g → AllGo (answered g b)
answered_goes g (Reply id reply) go = by_test (is_answered g.answers id) g (record g { answers = g.answers ++ record { id = id; reply = reply } ∷ [] }) go go
answered_goes g (Interval sets) go = go
answered_goes g (Query n) go = go
answered_goes g (Info n base log) go = go
answered_goes g (Install n log) go = go
answered_goes g (Installed n) go = go
answered_goes g (Append n place s) go = go
answered_goes g (Appended n place) go = go
answered_goes g (Request s) go = go
answered_goes g (NotHere id) go = go

arrives_goes : (g : Group) (m : Sent) (to : Party) (good : Good g) → SentOk g.sets good.promise good.h m → AllGo g → AllGo (arrives g m to)
arrives_goes g m Client good ok go = answered_goes g m.body go
arrives_goes g m (Osd d) good ok go = by_test (is_in g.up d) (copy_hears g m d (slice_get g.copies d)) g (hears_goes g m d (slice_get g.copies d) good refl ok go) go

deliver_goes : (g : Group) (k : ℕ) (found : Option Sent) → slice_get g.wire k ≡ found → Good g → AllGo g → AllGo (deliver g k found)
deliver_goes g k None is good go = go
deliver_goes g k (Some m) is good go = arrives_goes (without g k) m m.to (without_good g k good) (Each-get (SentOk g.sets good.promise good.h) g.wire k m good.wire is) (Each-remove (SentGoes g.sets) g.wire k go)

lose_goes : (g : Group) (k : ℕ) (found : Option Sent) → AllGo g → AllGo (lose g k found)
lose_goes g k None go = go
lose_goes g k (Some m) go = Each-remove (SentGoes g.sets) g.wire k go

again_goes : (g : Group) (k : ℕ) (found : Option Sent) → slice_get g.wire k ≡ found → AllGo g → AllGo (again g found)
again_goes g k None is go = go
again_goes g k (Some m) is go = Each-push (SentGoes g.sets) g.wire m go (Each-get (SentGoes g.sets) g.wire k m go is)

step_goes : (e : Event) (g : Group) → Good g → AllGo g → AllGo (group_step g e)
step_goes (Submit s) g good go = by_test (is_submitted g.requests s.id) g (if has_all_requests g then g else take_request g s) go (by_test (has_all_requests g) g (take_request g s) go
    (Each-append (SentGoes g.sets) g.wire (to_primary (last_set g.sets) (Request s ∷ [])) go (tell_first_goes g.sets (last_set g.sets) (s ∷ []))))
step_goes (Deliver k) g good go = deliver_goes g k (slice_get g.wire k) refl good go
step_goes (Lose k) g good go = lose_goes g k (slice_get g.wire k) go
step_goes (Repeat k) g good go = again_goes g k (slice_get g.wire k) refl go
step_goes (NewInterval acting up) g good go = by_test (same_set acting (last_set g.sets)) (with_up g up) (if has_all_intervals g then g else begin (with_up g up) acting) go
    (by_test (has_all_intervals g) g (begin (with_up g up) acting) go (begin_goes (with_up g up) acting go))
step_goes (Restart d) g good go =
    let h : Group = record g { copies = map (λ c. if c.number == d then restarted c else c) g.copies } in
    by_test (is_in (last_set g.sets) d) (if has_all_intervals g then g else begin h (last_set g.sets)) h (by_test (has_all_intervals g) g (begin h (last_set g.sets)) go (begin_goes h (last_set g.sets) go)) go
step_goes Kick g good go = kick_goes g good go

run_goes : (es : List Event) (g : Group) → Good g → AllGo g → AllGo (run es g)
run_goes [] g good go = go
run_goes (e ∷ es) g good go = run_goes es (group_step g e) (step_good e g good) (step_goes e g good go)

start_goes : (group : GroupId) (z count : ℕ) (acting up : List ℕ) → AllGo (start group z count acting up)
start_goes group z count acting up =
    begin_goes (record { group = group; min_size = z; copies = map (blank z) (take count daemons); wire = []; sets = []; up = up; requests = []; answers = []; audit = [] }) acting tt

reached_goes : (g : Group) → IsReached g → AllGo g
reached_goes g r = subst AllGo r.is (run_goes r.events (start r.group r.min_size r.daemons r.acting r.up) (start_good r.group r.min_size r.daemons r.acting r.up) (start_goes r.group r.min_size r.daemons r.acting r.up))

-- who hears of an entry

-- the copy that an entry of the interval that it promised is on its way to has no role
idle_as : (z : ℕ) (g : Group) (good : Good g) (d : ℕ) (c : Daemon) (r : Role) → RoleOk z g.sets good.promise good.h d c r → is_primary (set_of g.sets c.promise) d ≡ false → r ≡ Idle
idle_as z g good d c Idle ok other = refl
idle_as z g good d c (Peering informed) ok other = absurd (both_ways (is_primary (set_of g.sets c.promise) d) other ok.leads.first)
idle_as z g good d c (Installing done) ok other = absurd (both_ways (is_primary (set_of g.sets c.promise) d) other ok.owns.leads.first)
idle_as z g good d c (Active flight) ok other = absurd (both_ways (is_primary (set_of g.sets c.promise) d) other ok.0.leads.first)

goes_at : (g : Group) → AllGo g → (k n place : ℕ) (s : Sealed) (m : Sent) → slice_get g.wire k ≡ Some m → m.body ≡ Append n place s → GoesToOther g.sets n m.from m.to
goes_at g go k n place s m here is = subst (λ b. BodyGoes g.sets m.from m.to b) is (Each-get (SentGoes g.sets) g.wire k m go here)

pub appends_go : (g : Group) → IsReached g → AppendsGoToOthers g
appends_go g r =
    let go = reached_goes g r in
    let good : Good g = reached_good g r in
    record {
      goes = goes_at g go;
      idle = λ k place s m d c here to copy is. (
          let o = goes_at g go k c.promise place s m here is in
          let same : o.member ≡ d = osd_same o.member d (sym o.is_to ∙ to) in
          idle_as g.min_size g good d c c.role (good.copies d c copy).role (subst (λ v. is_primary (set_of g.sets c.promise) v ≡ false) same o.other));
    }
