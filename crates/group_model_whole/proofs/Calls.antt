-- What each call makes of a group.
use Rattle.std.proofs.Common.{ℕ, zero, suc, ◌≡◌, ◌≤◌, ◌<◌, ◌-◌, Bool, true, false, not, ◌==◌, ◌&&◌, List, [], ◌∷◌, ◌++◌, map, length, take, max, get_or, refl, sym, ◌∙◌, ap, subst, arith, append_assoc, length-append, if◌then◌else◌}
use Rattle.std.specs.Prelude.{Option, Some, None, slice_get, slice_set}
use Rattle.std.specs.List.{remove}
use Rattle.std.proofs.Math.Seq.{take-append_seam}
use Rattle.std.proofs.lemmas.List.{append-nil}
use Rattle.entry_core.specs.Log.{is_in}
use Rattle.store_core.specs.Request.{Sealed}
use Rattle.group_model_whole.specs.ActingSets.{daemons}
use Rattle.group_model_whole.specs.Steps.{Stepped, blank, restarted}
use Rattle.group_model_whole.specs.Copy.{copy_step}
use Rattle.group_model_whole.specs.Decided.{decided_by}
use Rattle.store_core.specs.declared.sealed.GroupId.{GroupId}
use Rattle.group_model_whole.specs.Types.{Daemon, Body, Interval, Query, Info, Install, Installed, Append, Appended, Request, Reply, NotHere, Osd, Client, Sent}
use Rattle.group_model_whole.specs.Group.{Group, Answer, Event, Submit, Deliver, Lose, Repeat, NewInterval, Restart, Kick, Unreachable, Full, Doubled, last_set, is_answered, answers_after, answered, to_daemon, to_primary, steps, copy_hears, arrives, without, deliver, lose, again, is_submitted, has_all_requests, has_all_intervals, take_request, begin, with_up, same_set, announced, resent, retransmit_primary, group_step, refusal_of, refusal_at, refusal_to, missing_at, IsSet, EventFits, start}
use Rattle.group_model_whole.specs.Furthest.{furthest}
use Rattle.group_model_whole.specs.Reached.{IsReached, HasJustTaken, unsent}
use Rattle.group_model_whole.specs.Sound.{IsSound}
use Rattle.group_model_whole.proofs.Reached.{reached_step, reached_start, reached_good, reached_audit}
use Rattle.group_model_whole.proofs.FarCopies.{audit_count}
use Rattle.group_model_whole.proofs.Groups.{get-set_same}
use Rattle.group_model_whole.proofs.Daemons.{furthest-map, restarted_if}

-- the event was not refused, and the group is the next one
pub record Next (g : Group) (e : Event) (new : Group) (decided : ℕ) : Type 0 where
  pub whole : IsSound new decided
  pub free : refusal_of g e ≡ None
  pub is : new ≡ group_step g e

next : {g : Group} {n : ℕ} → IsSound g n → (e : Event) → EventFits e → (new : Group) (m : ℕ) → refusal_of g e ≡ None → new ≡ group_step g e → length new.audit ≡ m → Next g e new m
next {g} w e fits new m free is long = record {
  whole = record { reached = subst IsReached (sym is) (reached_step g e w.reached fits); count = long };
  free = free;
  is = is;
}

-- places

pub record At {X : Type 0} (xs : List X) (k : ℕ) : Type 0 where
  pub item : X
  pub is : slice_get xs k ≡ Some item

pub get_below : {X : Type 0} (xs : List X) (k : ℕ) → k < length xs → At xs k
get_below [] k lt = absurd (omega arith)
get_below (x ∷ xs) zero lt = record { item = x; is = refl }
get_below (x ∷ xs) (suc k) lt = (let r = get_below xs k (omega arith) in record { item = r.item; is = r.is })

pub get_past : {X : Type 0} (xs : List X) (k : ℕ) → length xs ≤ k → slice_get xs k ≡ None
get_past [] k le = refl
get_past (x ∷ xs) zero le = absurd (omega arith)
get_past (x ∷ xs) (suc k) le = get_past xs k (omega arith)

pub get_in : {X : Type 0} (xs : List X) (k : ℕ) (x : X) → slice_get xs k ≡ Some x → k < length xs
get_in [] k x is = absurd (cc)
get_in (y ∷ xs) zero x is = omega arith
get_in (y ∷ xs) (suc k) x is = (let rest = get_in xs k x is in omega arith)

-- a message is lost, or repeated

pub next_lost : {g : Group} {n : ℕ} → IsSound g n → (k : ℕ) (wire : List Sent) → k < length g.wire → wire ≡ remove g.wire k → Next g (Lose k) (record g { wire = wire }) n
next_lost {g} {n} w k wire lt is =
    let m = get_below g.wire k lt in
    next w (Lose k) tt (record g { wire = wire }) n
    (ap (λ o. missing_at k o) m.is)
    (ap (λ l. record g { wire = l }) is ∙ sym (ap (λ o. lose g k o) m.is))
    w.count

pub next_repeated : {g : Group} {n : ℕ} → IsSound g n → (k : ℕ) (m : Sent) (wire : List Sent) → slice_get g.wire k ≡ Some m → wire ≡ g.wire ++ m ∷ [] → Next g (Repeat k) (record g { wire = wire }) n
next_repeated {g} {n} w k m wire here is =
    next w (Repeat k) tt (record g { wire = wire }) n
    (ap (λ o. missing_at k o) here)
    (ap (λ l. record g { wire = l }) is ∙ sym (ap (λ o. again g o) here))
    w.count

-- a request is taken

pub next_taken : {g : Group} {n : ℕ} → IsSound g n → (s : Sealed) (wire : List Sent) (requests : List Sealed) → is_submitted g.requests s.id ≡ false → length g.requests < 16384 →
    wire ≡ g.wire ++ to_primary (last_set g.sets) (Request s ∷ []) → requests ≡ g.requests ++ s ∷ [] → Next g (Submit s) (record g { wire = wire; requests = requests }) n
next_taken {g} {n} w s wire requests new room is_wire is_requests =
    let full : has_all_requests g ≡ false = grind (arith) in
    next w (Submit s) tt (record g { wire = wire; requests = requests }) n
    (free (is_submitted g.requests s.id) (has_all_requests g) new full)
    (ap (λ l. record g { wire = l; requests = requests }) is_wire ∙ ap (λ l. record g { wire = g.wire ++ to_primary (last_set g.sets) (Request s ∷ []); requests = l }) is_requests
    ∙ sym (opened (is_submitted g.requests s.id) (has_all_requests g) new full))
    w.count
  where
    free : (b q : Bool) → b ≡ false → q ≡ false → (if b then Some Doubled else (if q then Some Full else None)) ≡ None
    free true q e f = absurd (cc)
    free false true e f = absurd (cc)
    free false false e f = refl

    opened : (b q : Bool) → b ≡ false → q ≡ false → (if b then g else (if q then g else take_request g s)) ≡ take_request g s
    opened true q e f = absurd (cc)
    opened false true e f = absurd (cc)
    opened false false e f = refl

-- a kick

pub next_kicked : {g : Group} {n : ℕ} → IsSound g n → (wire : List Sent) → wire ≡ g.wire ++ ((announced g.sets ++ retransmit_primary g.copies (last_set g.sets)) ++ resent g.sets g.requests g.answers) → Next g Kick (record g { wire = wire }) n
next_kicked {g} {n} w wire is =
    let same : g.wire ++ ((announced g.sets ++ retransmit_primary g.copies (last_set g.sets)) ++ resent g.sets g.requests g.answers)
    ≡ ((g.wire ++ announced g.sets) ++ retransmit_primary g.copies (last_set g.sets)) ++ resent g.sets g.requests g.answers =
    sym (append_assoc g.wire (announced g.sets ++ retransmit_primary g.copies (last_set g.sets)) (resent g.sets g.requests g.answers))
    ∙ ap (λ l. l ++ resent g.sets g.requests g.answers) (sym (append_assoc g.wire (announced g.sets) (retransmit_primary g.copies (last_set g.sets)))) in
    next w Kick tt (record g { wire = wire }) n refl (ap (λ l. record g { wire = l }) (is ∙ same)) w.count

-- a message reaches the client

answered_is : (g : Group) (b : Body) → answered g b ≡ record g { answers = answers_after g.answers b }
answered_is g (Reply id reply) = go (is_answered g.answers id)
  where
    go : (b : Bool) → (if b then g else record g { answers = g.answers ++ record { id = id; reply = reply } ∷ [] })
        ≡ record g { answers = if b then g.answers else g.answers ++ record { id = id; reply = reply } ∷ [] }
    go true = refl
    go false = refl
answered_is g (Interval sets) = refl
answered_is g (Query n) = refl
answered_is g (Info n base log) = refl
answered_is g (Install n log) = refl
answered_is g (Installed n) = refl
answered_is g (Append n place s) = refl
answered_is g (Appended n place) = refl
answered_is g (Request s) = refl
answered_is g (NotHere id) = refl

to_client : (g : Group) (k : ℕ) (m : Sent) → m.to ≡ Client → arrives (without g k) m m.to ≡ record g { wire = remove g.wire k; answers = answers_after g.answers m.body }
to_client g k m is = ap (λ p. arrives (without g k) m p) is ∙ answered_is (without g k) m.body

pub next_answered : {g : Group} {n : ℕ} → IsSound g n → (k : ℕ) (m : Sent) (wire : List Sent) (answers : List Answer) → slice_get g.wire k ≡ Some m → m.to ≡ Client →
    wire ≡ remove g.wire k → answers ≡ answers_after g.answers m.body → Next g (Deliver k) (record g { wire = wire; answers = answers }) n
next_answered {g} {n} w k m wire answers here to is_wire is_answers =
    next w (Deliver k) tt (record g { wire = wire; answers = answers }) n
    (ap (λ o. refusal_at g k o) here ∙ ap (λ p. refusal_to g p) to)
    (ap (λ l. record g { wire = l; answers = answers }) is_wire ∙ ap (λ l. record g { wire = remove g.wire k; answers = l }) is_answers
    ∙ sym (ap (λ o. deliver g k o) here ∙ to_client g k m to))
    w.count

-- a message is dropped, or reaches a copy

pub refused_down : (g : Group) (k d : ℕ) (m : Sent) → slice_get g.wire k ≡ Some m → m.to ≡ Osd d → is_in g.up d ≡ false → refusal_of g (Deliver k) ≡ Some Unreachable
refused_down g k d m here to down = ap (λ o. refusal_at g k o) here ∙ ap (λ p. refusal_to g p) to ∙ ap (λ b. if b then None else Some Unreachable) down

pub dropped_is : (g : Group) (k d : ℕ) (m : Sent) → slice_get g.wire k ≡ Some m → m.to ≡ Osd d → is_in g.up d ≡ false → group_step g (Deliver k) ≡ without g k
dropped_is g k d m here to down = ap (λ o. deliver g k o) here ∙ ap (λ p. arrives (without g k) m p) to ∙ ap (λ b. if b then copy_hears (without g k) m d (slice_get g.copies d) else without g k) down

free_up : (g : Group) (k d : ℕ) (m : Sent) → slice_get g.wire k ≡ Some m → m.to ≡ Osd d → is_in g.up d ≡ true → refusal_of g (Deliver k) ≡ None
free_up g k d m here to up = ap (λ o. refusal_at g k o) here ∙ ap (λ p. refusal_to g p) to ∙ ap (λ b. if b then None else Some Unreachable) up

arrived_is : (g : Group) (k d : ℕ) (m : Sent) (found : Option Daemon) → slice_get g.wire k ≡ Some m → m.to ≡ Osd d → is_in g.up d ≡ true → slice_get g.copies d ≡ found → group_step g (Deliver k) ≡ copy_hears (without g k) m d found
arrived_is g k d m found here to up is = ap (λ o. deliver g k o) here ∙ ap (λ p. arrives (without g k) m p) to ∙ ap (λ b. if b then copy_hears (without g k) m d (slice_get g.copies d) else without g k) up
    ∙ ap (λ o. copy_hears (without g k) m d o) is

pub next_swallowed : {g : Group} {n : ℕ} → IsSound g n → (k d : ℕ) (m : Sent) (wire : List Sent) → slice_get g.wire k ≡ Some m → m.to ≡ Osd d → is_in g.up d ≡ true → length g.copies ≤ d →
    wire ≡ remove g.wire k → Next g (Deliver k) (record g { wire = wire }) n
next_swallowed {g} {n} w k d m wire here to up past is =
    next w (Deliver k) tt (record g { wire = wire }) n (free_up g k d m here to up)
    (ap (λ l. record g { wire = l }) is ∙ sym (arrived_is g k d m None here to up (get_past g.copies d past))) w.count

pub next_heard : {g : Group} {n : ℕ} → IsSound g n → (k d : ℕ) (m : Sent) (c c' : Daemon) (wire : List Sent) (copies : List Daemon) (decided : ℕ) → slice_get g.wire k ≡ Some m → m.to ≡ Osd d → is_in g.up d ≡ true →
    slice_get g.copies d ≡ Some c → c' ≡ (copy_step c (record { from = m.from; body = m.body })).copy → wire ≡ remove g.wire k ++ (copy_step c (record { from = m.from; body = m.body })).sent →
    copies ≡ slice_set g.copies d c' → decided ≡ max n (length (decided_by c'.role c'.log)) →
    Next g (Deliver k) (record g { wire = wire; copies = copies; audit = take decided (furthest copies) }) decided
next_heard {g} {n} w k d m c c' wire copies decided here to up found is_copy is_wire is_copies is_decided =
    let s : Stepped = copy_step c (record { from = m.from; body = m.body }) in
    let h : Group = steps (without g k) d s in
    let step : group_step g (Deliver k) ≡ h = arrived_is g k d m (Some c) here to up found in
    let reached : IsReached h = subst IsReached step (reached_step g (Deliver k) w.reached tt) in
    let stands : slice_get h.copies d ≡ Some s.copy = get-set_same g.copies d c s.copy found in
    let long : length h.audit ≡ max (length g.audit) (length (decided_by s.copy.role s.copy.log)) = audit_count h g.audit s.copy d refl (reached_good h reached) stands in
    let of_copy : length (decided_by c'.role c'.log) ≡ length (decided_by s.copy.role s.copy.log) = ap (λ (v : Daemon). length (decided_by v.role v.log)) is_copy in
    let was = w.count in
    let count : length h.audit ≡ decided = long ∙ ap (λ v. max v (length (decided_by s.copy.role s.copy.log))) was ∙ ap (λ v. max n v) (sym of_copy) ∙ sym is_decided in
    let at : copies ≡ h.copies = is_copies ∙ ap (λ v. slice_set g.copies d v) is_copy in
    let audit : take decided (furthest copies) ≡ h.audit = ap (λ l. take decided (furthest l)) at ∙ ap (λ v. take v (furthest h.copies)) (sym count) ∙ sym (reached_audit h reached) in
    let same : record g { wire = wire; copies = copies; audit = take decided (furthest copies) } ≡ h =
    ap (λ l. record g { wire = l; copies = copies; audit = take decided (furthest copies) }) is_wire
    ∙ ap (λ l. record g { wire = h.wire; copies = l; audit = take decided (furthest copies) }) at
    ∙ ap (λ l. record g { wire = h.wire; copies = h.copies; audit = l }) audit in
    next w (Deliver k) tt (record g { wire = wire; copies = copies; audit = take decided (furthest copies) }) decided (free_up g k d m here to up) (same ∙ sym step) (ap (λ (v : Group). length v.audit) same ∙ count)

-- intervals

downed : List ℕ → List ℕ → Daemon → Bool
downed was up c = is_in was c.number && not (is_in up c.number)

pub next_same : {g : Group} {n : ℕ} → IsSound g n → (acting up : List ℕ) (copies : List Daemon) → IsSet acting → same_set acting (last_set g.sets) ≡ true →
    copies ≡ map (λ c. if is_in g.up c.number && not (is_in up c.number) then restarted c else c) g.copies → take n (furthest g.copies) ≡ g.audit →
    Next g (NewInterval acting up) (record g { up = up; copies = copies; audit = take n (furthest copies) }) n
next_same {g} {n} w acting up copies fits same is_copies shown =
    let far : furthest copies ≡ furthest g.copies = ap (λ l. furthest l) is_copies ∙ furthest-map (λ c. if is_in g.up c.number && not (is_in up c.number) then restarted c else c) (λ c. restarted_if (is_in g.up c.number && not (is_in up c.number)) c) g.copies in
    let audit : take n (furthest copies) ≡ g.audit = ap (λ l. take n l) far ∙ shown in
    let new : record g { up = up; copies = copies; audit = take n (furthest copies) } ≡ with_up g up =
    ap (λ l. record g { up = up; copies = copies; audit = l }) audit ∙ ap (λ l. record g { up = up; copies = l }) is_copies in
    let step : group_step g (NewInterval acting up) ≡ with_up g up = ap (λ b. if b then with_up g up else (if has_all_intervals g then g else begin (with_up g up) acting)) same in
    next w (NewInterval acting up) fits (record g { up = up; copies = copies; audit = take n (furthest copies) }) n
    (ap (λ b. if b then None else (if has_all_intervals g then Some Full else None)) same)
    (new ∙ sym step) (ap (λ l. length l) audit ∙ w.count)

pub next_begun : {g : Group} {n : ℕ} → IsSound g n → (acting up : List ℕ) (copies : List Daemon) (sets : List (List ℕ)) (wire : List Sent) → IsSet acting → same_set acting (last_set g.sets) ≡ false → length g.sets < 1024 →
    sets ≡ g.sets ++ acting ∷ [] → wire ≡ (g.wire ++ announced (g.sets ++ acting ∷ [])) ++ resent (g.sets ++ acting ∷ []) g.requests g.answers →
    copies ≡ map (λ c. if is_in g.up c.number && not (is_in up c.number) then restarted c else c) g.copies → take n (furthest g.copies) ≡ g.audit →
    Next g (NewInterval acting up) (record g { wire = wire; sets = sets; up = up; copies = copies; audit = take n (furthest copies) }) n
next_begun {g} {n} w acting up copies sets wire fits other room is_sets is_wire is_copies shown =
    let far : furthest copies ≡ furthest g.copies = ap (λ l. furthest l) is_copies ∙ furthest-map (λ c. if is_in g.up c.number && not (is_in up c.number) then restarted c else c) (λ c. restarted_if (is_in g.up c.number && not (is_in up c.number)) c) g.copies in
    let audit : take n (furthest copies) ≡ g.audit = ap (λ l. take n l) far ∙ shown in
    let full : has_all_intervals g ≡ false = grind (arith) in
    let new : record g { wire = wire; sets = sets; up = up; copies = copies; audit = take n (furthest copies) } ≡ begin (with_up g up) acting =
    ap (λ l. record g { wire = wire; sets = sets; up = up; copies = copies; audit = l }) audit ∙ ap (λ l. record g { wire = wire; sets = sets; up = up; copies = l }) is_copies
    ∙ ap (λ l. record (with_up g up) { wire = wire; sets = l }) is_sets ∙ ap (λ l. record (with_up g up) { wire = l; sets = g.sets ++ acting ∷ [] }) is_wire in
    let step : group_step g (NewInterval acting up) ≡ begin (with_up g up) acting =
    ap (λ b. if b then with_up g up else (if has_all_intervals g then g else begin (with_up g up) acting)) other ∙ ap (λ b. if b then g else begin (with_up g up) acting) full in
    next w (NewInterval acting up) fits (record g { wire = wire; sets = sets; up = up; copies = copies; audit = take n (furthest copies) }) n
    (ap (λ b. if b then None else (if has_all_intervals g then Some Full else None)) other ∙ ap (λ b. if b then Some Full else None) full)
    (new ∙ sym step) (ap (λ l. length l) audit ∙ w.count)

pub next_restarted : {g : Group} {n : ℕ} → IsSound g n → (d : ℕ) (copies : List Daemon) → is_in (last_set g.sets) d ≡ false →
    copies ≡ map (λ c. if c.number == d then restarted c else c) g.copies → take n (furthest g.copies) ≡ g.audit →
    Next g (Restart d) (record g { copies = copies; audit = take n (furthest copies) }) n
next_restarted {g} {n} w d copies out is_copies shown =
    let far : furthest copies ≡ furthest g.copies = ap (λ l. furthest l) is_copies ∙ furthest-map (λ c. if c.number == d then restarted c else c) (λ c. restarted_if (c.number == d) c) g.copies in
    let audit : take n (furthest copies) ≡ g.audit = ap (λ l. take n l) far ∙ shown in
    let h : Group = record g { copies = map (λ c. if c.number == d then restarted c else c) g.copies } in
    let new : record g { copies = copies; audit = take n (furthest copies) } ≡ h = ap (λ l. record g { copies = copies; audit = l }) audit ∙ ap (λ l. record g { copies = l }) is_copies in
    let step : group_step g (Restart d) ≡ h = ap (λ b. if b then (if has_all_intervals g then g else begin h (last_set g.sets)) else h) out in
    next w (Restart d) tt (record g { copies = copies; audit = take n (furthest copies) }) n
    (ap (λ b. if b then (if has_all_intervals g then Some Full else None) else None) out)
    (new ∙ sym step) (ap (λ l. length l) audit ∙ w.count)

pub next_rejoined : {g : Group} {n : ℕ} → IsSound g n → (d : ℕ) (copies : List Daemon) (sets : List (List ℕ)) (wire : List Sent) → is_in (last_set g.sets) d ≡ true → length g.sets < 1024 →
    sets ≡ g.sets ++ last_set g.sets ∷ [] → wire ≡ (g.wire ++ announced (g.sets ++ last_set g.sets ∷ [])) ++ resent (g.sets ++ last_set g.sets ∷ []) g.requests g.answers →
    copies ≡ map (λ c. if c.number == d then restarted c else c) g.copies → take n (furthest g.copies) ≡ g.audit →
    Next g (Restart d) (record g { wire = wire; sets = sets; copies = copies; audit = take n (furthest copies) }) n
next_rejoined {g} {n} w d copies sets wire inside room is_sets is_wire is_copies shown =
    let far : furthest copies ≡ furthest g.copies = ap (λ l. furthest l) is_copies ∙ furthest-map (λ c. if c.number == d then restarted c else c) (λ c. restarted_if (c.number == d) c) g.copies in
    let audit : take n (furthest copies) ≡ g.audit = ap (λ l. take n l) far ∙ shown in
    let full : has_all_intervals g ≡ false = grind (arith) in
    let h : Group = record g { copies = map (λ c. if c.number == d then restarted c else c) g.copies } in
    let new : record g { wire = wire; sets = sets; copies = copies; audit = take n (furthest copies) } ≡ begin h (last_set g.sets) =
    ap (λ l. record g { wire = wire; sets = sets; copies = copies; audit = l }) audit ∙ ap (λ l. record g { wire = wire; sets = sets; copies = l }) is_copies
    ∙ ap (λ l. record h { wire = wire; sets = l }) is_sets ∙ ap (λ l. record h { wire = l; sets = g.sets ++ last_set g.sets ∷ [] }) is_wire in
    let step : group_step g (Restart d) ≡ begin h (last_set g.sets) =
    ap (λ b. if b then (if has_all_intervals g then g else begin h (last_set g.sets)) else h) inside ∙ ap (λ b. if b then g else begin h (last_set g.sets)) full in
    next w (Restart d) tt (record g { wire = wire; sets = sets; copies = copies; audit = take n (furthest copies) }) n
    (ap (λ b. if b then (if has_all_intervals g then Some Full else None) else None) inside ∙ ap (λ b. if b then Some Full else None) full)
    (new ∙ sym step) (ap (λ l. length l) audit ∙ w.count)

-- what a call ensures

pub stepped : {g old new : Group} {e : Event} {m : ℕ} → g ≡ old → Next g e new m → (refusal_of old e ≡ None) × (new ≡ group_step old e)
stepped {new = new} {e = e} same n = subst (λ v. (refusal_of v e ≡ None) × (new ≡ group_step v e)) same (n.free, n.is)

pub whole_dropped : {g : Group} {n : ℕ} → IsSound g n → (k d : ℕ) (m : Sent) (wire : List Sent) → slice_get g.wire k ≡ Some m → m.to ≡ Osd d → is_in g.up d ≡ false → wire ≡ remove g.wire k → IsSound (record g { wire = wire }) n
whole_dropped {g} {n} w k d m wire here to down is = record {
  reached = subst IsReached (dropped_is g k d m here to down ∙ ap (λ l. record g { wire = l }) (sym is)) (reached_step g (Deliver k) w.reached tt);
  count = w.count;
}

pub get_or_some : {X : Type 0} (xs : List X) (d : ℕ) (e : X) → d < length xs → slice_get xs d ≡ Some (get_or xs d e)
get_or_some [] d e lt = absurd (omega arith)
get_or_some (x ∷ xs) zero e lt = refl
get_or_some (x ∷ xs) (suc d) e lt = get_or_some xs d e (omega arith)

pub whole_start : (group : GroupId) (z count : ℕ) (acting up : List ℕ) (g : Group) → 1 ≤ z → IsSet acting → g ≡ start group z count acting up → IsSound g 0
whole_start group z count acting up g least fits is = record { reached = subst IsReached (sym is) (reached_start group z count acting up least fits); count = ap (λ (v : Group). length v.audit) is }

pub begun_is : (group : GroupId) (z count : ℕ) (acting up : List ℕ) (copies : List Daemon) (wire wire' : List Sent) (sets sets' : List (List ℕ)) (requests : List Sealed) (answers : List Answer) →
    copies ≡ map (blank z) (take count daemons) → wire ≡ [] → sets ≡ [] → requests ≡ [] → answers ≡ [] → sets' ≡ sets ++ acting ∷ [] →
    wire' ≡ (wire ++ announced (sets ++ acting ∷ [])) ++ resent (sets ++ acting ∷ []) requests answers →
    record { group = group; min_size = z; copies = copies; wire = wire'; sets = sets'; up = up; requests = requests; answers = answers; audit = [] } ≡ start group z count acting up
begun_is group z count acting up copies wire wire' sets sets' requests answers is_copies is_wire is_sets is_requests is_answers is_sets' is_wire' =
    let s : sets' ≡ acting ∷ [] = is_sets' ∙ ap (λ l. l ++ acting ∷ []) is_sets in
    let w : wire' ≡ announced (acting ∷ []) ++ resent (acting ∷ []) [] [] =
    is_wire' ∙ ap (λ l. (l ++ announced (sets ++ acting ∷ [])) ++ resent (sets ++ acting ∷ []) requests answers) is_wire
    ∙ ap (λ l. announced (l ++ acting ∷ []) ++ resent (l ++ acting ∷ []) requests answers) is_sets
    ∙ ap (λ l. announced (acting ∷ []) ++ resent (acting ∷ []) l answers) is_requests ∙ ap (λ l. announced (acting ∷ []) ++ resent (acting ∷ []) [] l) is_answers in
    let made : List Daemon → List Sent → List (List ℕ) → List Sealed → List Answer → Group =
    λ c v u r a. record { group = group; min_size = z; copies = c; wire = v; sets = u; up = up; requests = r; answers = a; audit = [] } in
    ap (λ c. made c wire' sets' requests answers) is_copies ∙ ap (λ v. made (map (blank z) (take count daemons)) v sets' requests answers) w
    ∙ ap (λ v. made (map (blank z) (take count daemons)) (announced (acting ∷ []) ++ resent (acting ∷ []) [] []) v requests answers) s
    ∙ ap (λ v. made (map (blank z) (take count daemons)) (announced (acting ∷ []) ++ resent (acting ∷ []) [] []) (acting ∷ []) v answers) is_requests
    ∙ ap (λ v. made (map (blank z) (take count daemons)) (announced (acting ∷ []) ++ resent (acting ∷ []) [] []) (acting ∷ []) [] v) is_answers

-- the results of a step, where an equation gives who is up

pub whole_up : {g new : Group} {e : Event} {m : ℕ} {up : List ℕ} → up ≡ new.up → Next g e new m → IsSound (record new { up = up }) m
whole_up {new = new} {m = m} is n = subst (λ u. IsSound (record new { up = u }) m) (sym is) n.whole

pub stepped_up : {g old new : Group} {e : Event} {m : ℕ} {up : List ℕ} → g ≡ old → up ≡ new.up → Next g e new m → (refusal_of old e ≡ None) × (record new { up = up } ≡ group_step old e)
stepped_up {new = new} same is n = (let s = stepped same n in (s.0, ap (λ u. record new { up = u }) is ∙ s.1))

-- the last request is taken back

take-front : {X : Type 0} (xs : List X) (x : X) → take (length (xs ++ x ∷ []) - 1) (xs ++ x ∷ []) ≡ xs
take-front xs x = (let same : length (xs ++ x ∷ []) - 1 ≡ length xs = omega (arith, length-append xs (x ∷ [])) in ap (λ n. take n (xs ++ x ∷ [])) same ∙ take-append_seam xs (x ∷ []))

unsent_is : (set : List ℕ) (wire : List Sent) (s : Sealed) → unsent set (wire ++ to_primary set (Request s ∷ [])) ≡ wire
unsent_is [] wire s = append-nil wire
unsent_is (d ∷ ds) wire s = take-front wire (to_daemon d (Request s))

pub opens_is : (before : Group) (s : Sealed) → refusal_of before (Submit s) ≡ None → group_step before (Submit s) ≡ take_request before s
opens_is before s free = go (is_submitted before.requests s.id) (has_all_requests before) free
  where
    go : (b q : Bool) → (if b then Some Doubled else (if q then Some Full else None)) ≡ None → (if b then before else (if q then before else take_request before s)) ≡ take_request before s
    go true q e = absurd (cc)
    go false true e = absurd (cc)
    go false false e = refl

-- a group without its last request and that request's message
abbrev pub without_last : Group → Group
without_last g = record g { wire = unsent (last_set g.sets) g.wire; requests = take (length g.requests - 1) g.requests }

pub taken_back : (g before : Group) (s : Sealed) → HasJustTaken g before s → without_last g ≡ before
taken_back g before s t =
    let is : g ≡ take_request before s = t.is ∙ opens_is before s t.taken in
    ap without_last is ∙ ap (λ l. record before { wire = l; requests = take (length (before.requests ++ s ∷ []) - 1) (before.requests ++ s ∷ []) }) (unsent_is (last_set before.sets) before.wire s)
    ∙ ap (λ l. record before { requests = l }) (take-front before.requests s)

pub whole_back : (g before : Group) (s : Sealed) (n : ℕ) (wire : List Sent) (requests : List Sealed) → HasJustTaken g before s → IsSound g n →
    wire ≡ unsent (last_set g.sets) g.wire → requests ≡ take (length g.requests - 1) g.requests → IsSound (record g { wire = wire; requests = requests }) n
whole_back g before s n wire requests t w is_wire is_requests =
    let is : record g { wire = wire; requests = requests } ≡ before =
    ap (λ l. record g { wire = l; requests = requests }) is_wire ∙ ap (λ l. record g { wire = unsent (last_set g.sets) g.wire; requests = l }) is_requests ∙ taken_back g before s t in
    record { reached = subst IsReached (sym is) t.reached; count = w.count }
