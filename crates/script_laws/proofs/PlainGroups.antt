-- A group of a plain script: it stays in its one interval.
use Rattle.std.proofs.Common.{◌≡◌, ◌∙◌, ℕ, ◌+◌, ◌*◌, ◌<◌, ◌≤◌, ◌==◌, List, [], ◌∷◌, Bool, true, false, if◌then◌else◌, None, map, length, take, refl, sym, ap, subst, arith}
use Rattle.std.specs.Prelude.{nat_le, slice_get}
use Rattle.std.proofs.lemmas.Bool.Decides.{nat_tests}
use Rattle.entry_core.specs.Log.{is_in}
use Rattle.store_core.specs.Request.{Sealed}
use Rattle.store_core.specs.declared.entry.Entry.{Entry}
use Rattle.store_core.specs.declared.sealed.GroupId.{GroupId}
use Rattle.group_model_whole.specs.ActingSets.{daemons}
use Rattle.peer_core.specs.Steps.{restarted}
use Rattle.group_model_whole.specs.Each.{Each}
use Rattle.group_messages.specs.Answers.{Answer}
use Rattle.group_model.specs.Group.{Group, IsSet, last_set, is_submitted, has_all_requests, has_all_intervals, take_request, begin, with_up, same_set, group_step, run, start}
use Rattle.group_model.specs.Group as group
use Rattle.group_model.specs.Budget.{budget, settled_group, settle_count}
use Rattle.group_model_whole.specs.Quiet.{IsQuiet, opening_cost, request_cost}
use Rattle.group_model.specs.Quiet.{made_by}
use Rattle.group_model_whole.specs.Calm.{IsCalm, IsSmall, unserved_cost, answer_with}
use Rattle.group_model.specs.Calm.{IsCalmGroup}
use Rattle.group_model.specs.Laws.{KeepsCount, DecidesInOrder}
use Rattle.group_model.proofs.Statements.{serves_in_time, decides_in_order, answers_nothing, serving_keeps_count, waiting_keeps_count}
use Rattle.group_model.proofs.CalmGroups.{steps_calm, settles_calm}
use Rattle.group_model.proofs.Statements.{quiet_opening}
use Rattle.group_model.proofs.Statements.{small_opening}
use Rattle.group_model.proofs.SameGroups.{same_step, same_run}
use Rattle.group_model.proofs.Runs.{delivered_idle}
use Rattle.script_laws.specs.Plain.{serving_cost, waiting_cost}
use Rattle.world_core.proofs.Requests.{message_facts}
use Rattle.world_core.proofs.Intervals.{same_set_refl}

-- its acting set, all of it up from the beginning on, and only calm events
pub record Steady (least : ℕ) (acting : List ℕ) (g : Group) : Type 0 where
  pub count : ℕ
  pub up : List ℕ
  pub some : 1 ≤ least
  pub calm : IsCalmGroup least count acting up g
  pub set : IsSet acting
  pub exist : (d : ℕ) → is_in acting d ≡ true → d < length (take count daemons)
  pub live : (d : ℕ) → is_in acting d ≡ true → is_in up d ≡ true

quiet : (least : ℕ) (acting : List ℕ) (g : Group) (h : Steady least acting g) → least ≤ length acting → IsQuiet least h.count acting h.up
quiet least acting g h enough = let s : 1 ≤ least = h.some in record { some = omega arith; enough = enough; set = h.set; exist = h.exist; live = h.live }

small : (least : ℕ) (acting : List ℕ) (g : Group) (h : Steady least acting g) → length acting < least → IsSmall least h.count acting h.up
small least acting g h few = record { few = few; set = h.set; exist = h.exist; live = h.live }

pub steady_step : (least : ℕ) (acting : List ℕ) (g : Group) (e : group.Event) → Steady least acting g → IsCalm acting e → Steady least acting (group_step g e)
steady_step least acting g e h fits = record { count = h.count; up = h.up; some = h.some; calm = steps_calm least h.count acting h.up g e h.calm fits; set = h.set; exist = h.exist; live = h.live }

pub steady_settles : (least : ℕ) (acting : List ℕ) (g : Group) → Steady least acting g → Steady least acting (settled_group g)
steady_settles least acting g h = record { count = h.count; up = h.up; some = h.some; calm = settles_calm least h.count acting h.up g h.calm; set = h.set; exist = h.exist; live = h.live }

pub steady_least : (least : ℕ) (acting : List ℕ) (g : Group) → Steady least acting g → g.min_size ≡ least
steady_least least acting g h = ap (λ (v : Group). v.min_size) (sym h.calm.is) ∙ (same_run (start h.calm.group least h.count acting h.up) h.calm.events).min_size

-- ---- what events leave

pub record Decided : Type 0 where
  pub audit : List Entry
  pub answers : List Answer

abbrev pub decided : Group → Decided
decided g = record { audit = g.audit; answers = g.answers }

abbrev Is : Decided → Group → Type 0
Is x g = decided g ≡ x

is_if : (x : Decided) (b : Bool) (g h : Group) → Is x g → Is x h → Is x (if b then g else h)
is_if x true g h p q = p
is_if x false g h p q = q

-- a submission, a new interval or a restart: such an event decides nothing
abbrev pub IsStill : group.Event → Type 0
IsStill (group.Submit s) = Unit {0}
IsStill (group.NewInterval acting up) = Unit {0}
IsStill (group.Restart d) = Unit {0}
IsStill (group.Deliver k) = ⊥
IsStill (group.Lose k) = ⊥
IsStill (group.Repeat k) = ⊥
IsStill group.Kick = ⊥

pub still_decided : (e : group.Event) (g : Group) → IsStill e → decided (group_step g e) ≡ decided g
still_decided (group.Submit s) g h = is_if (decided g) (is_submitted g.requests s.id) g (if has_all_requests g then g else take_request g s) refl (is_if (decided g) (has_all_requests g) g (take_request g s) refl refl)
still_decided (group.NewInterval acting up) g h =
    is_if (decided g) (same_set acting (last_set g.sets)) (with_up g up) (if has_all_intervals g then g else begin (with_up g up) acting) refl
    (is_if (decided g) (has_all_intervals g) g (begin (with_up g up) acting) refl refl)
still_decided (group.Restart d) g h =
    let k : Group = record g { copies = map (λ c. if c.number == d then restarted c else c) g.copies } in
    is_if (decided g) (is_in (last_set g.sets) d) (if has_all_intervals g then g else begin k (last_set g.sets)) k (is_if (decided g) (has_all_intervals g) g (begin k (last_set g.sets)) refl refl) refl
still_decided (group.Deliver k) g h = absurd h
still_decided (group.Lose k) g h = absurd h
still_decided (group.Repeat k) g h = absurd h
still_decided group.Kick g h = absurd h

-- ---- one interval

calm_set : (acting : List ℕ) (e : group.Event) (g : Group) → IsCalm acting e → g.sets ≡ acting ∷ [] → (group_step g e).sets ≡ acting ∷ []
calm_set acting (group.Submit s) g fits one = submitted (is_submitted g.requests s.id) (has_all_requests g)
  where
    submitted : (b c : Bool) → (if b then g else (if c then g else take_request g s)).sets ≡ acting ∷ []
    submitted true c = one
    submitted false true = one
    submitted false false = one
calm_set acting (group.Deliver k) g fits one = ap (λ x. x.sets) (message_facts (group.Deliver k) g tt) ∙ one
calm_set acting (group.NewInterval set up) g fits one =
    ap (λ b. (if b then with_up g up else (if has_all_intervals g then g else begin (with_up g up) set)).sets)
    (ap (λ s. same_set set (last_set s)) one ∙ ap (λ s. same_set s acting) fits.same ∙ same_set_refl acting)
    ∙ one
calm_set acting (group.Restart d) g fits one =
    let k : Group = record g { copies = map (λ c. if c.number == d then restarted c else c) g.copies } in
    ap (λ b. (if b then (if has_all_intervals g then g else begin k (last_set g.sets)) else k).sets) (ap (λ s. is_in (last_set s) d) one ∙ fits) ∙ one
calm_set acting (group.Lose k) g fits one = absurd fits
calm_set acting (group.Repeat k) g fits one = absurd fits
calm_set acting group.Kick g fits one = absurd fits

calm_sets : (acting : List ℕ) (es : List group.Event) (g : Group) → Each (IsCalm acting) es → g.sets ≡ acting ∷ [] → (run es g).sets ≡ acting ∷ []
calm_sets acting [] g fits one = one
calm_sets acting (e ∷ es) g fits one = calm_sets acting es (group_step g e) fits.1 (calm_set acting e g fits.0 one)

pub steady_sets : (least : ℕ) (acting : List ℕ) (g : Group) → Steady least acting g → g.sets ≡ acting ∷ []
steady_sets least acting g h = ap (λ (v : Group). v.sets) (sym h.calm.is) ∙ calm_sets acting h.calm.events (start h.calm.group least h.count acting h.up) h.calm.calm refl

-- ---- deliveries that are due

abbrev pub due : ℕ → List ℕ → Bool → (pending fresh : ℕ) → ℕ
due least acting open_one pending fresh = if nat_le least (length acting) then serving_cost (length acting) open_one pending else waiting_cost (length acting) open_one fresh

le_true : (a b : ℕ) → nat_le a b ≡ true → a ≤ b
le_true a b h = grind (arith, nat_tests)

le_false : (a b : ℕ) → nat_le a b ≡ false → b < a
le_false a b h = grind (arith, nat_tests)

times_more : (c p : ℕ) → c * (p + 1) ≡ c * p + c
times_more c p = omega arith

times_none : (c x : ℕ) → x + c * 0 ≡ x
times_none c x = omega arith

-- a new group owes its opening
pub due_begins : (id : GroupId) (least : ℕ) (acting : List ℕ) (count : ℕ) (up : List ℕ) → (h : Steady least acting (start id least count acting up)) → h.count ≡ count → h.up ≡ up → settle_count (start id least count acting up) ≡ due least acting false 0 0
due_begins id least acting count up h same_count same_up = go (nat_le least (length acting)) refl
  where
    go : (b : Bool) → nat_le least (length acting) ≡ b → settle_count (start id least count acting up) ≡ (if b then serving_cost (length acting) false 0 else waiting_cost (length acting) false 0)
    go true e =
        let P : ℕ → List ℕ → Type 0 = λ c u. IsQuiet least c acting u in
        let q : IsQuiet least count acting up = subst (λ c. P c up) same_count (subst (P h.count) same_up (quiet least acting (start id least count acting up) h (le_true least (length acting) e))) in
        quiet_opening id least count acting up q ∙ sym (times_none (request_cost (length acting)) (opening_cost (length acting)))
    go false e =
        let P : ℕ → List ℕ → Type 0 = λ c u. IsSmall least c acting u in
        let q : IsSmall least count acting up = subst (λ c. P c up) same_count (subst (P h.count) same_up (small least acting (start id least count acting up) h (le_false least (length acting) e))) in
        small_opening id least count acting up q ∙ sym (times_none (unserved_cost (length acting)) (length acting))

-- a request that is taken owes its own
pub due_submits : (least : ℕ) (acting : List ℕ) (g : Group) (s : Sealed) (open_one : Bool) (pending fresh : ℕ) → Steady least acting g → group.refusal_of g (group.Submit s) ≡ None → settle_count g ≡ due least acting open_one pending fresh
    → settle_count (group_step g (group.Submit s)) ≡ due least acting open_one (pending + 1) (fresh + 1)
due_submits least acting g s open_one pending fresh h free so_far = go (nat_le least (length acting)) refl so_far
  where
    more : (x c n : ℕ) → (x + c * n) + c ≡ x + c * (n + 1)
    more x c n = omega (arith, times_more c n)

    go : (b : Bool) → nat_le least (length acting) ≡ b → settle_count g ≡ (if b then serving_cost (length acting) open_one pending else waiting_cost (length acting) open_one fresh)
        → settle_count (group_step g (group.Submit s)) ≡ (if b then serving_cost (length acting) open_one (pending + 1) else waiting_cost (length acting) open_one (fresh + 1))
    go true e now =
        let q = serves_in_time least h.count acting h.up g (quiet least acting g h (le_true least (length acting) e)) h.calm in
        q.one_more s free ∙ ap (λ n. n + request_cost (length acting)) now ∙ more (if open_one then 0 else opening_cost (length acting)) (request_cost (length acting)) pending
    go false e now =
        let q = answers_nothing least h.count acting h.up g (small least acting g h (le_false least (length acting) e)) h.calm in
        q.one_more s free ∙ ap (λ n. n + unserved_cost (length acting)) now ∙ more (if open_one then 0 else length acting) (unserved_cost (length acting)) fresh

-- what is no request and no delivery owes nothing
abbrev pub IsAside : group.Event → Type 0
IsAside (group.NewInterval acting up) = Unit {0}
IsAside (group.Restart d) = Unit {0}
IsAside (group.Submit s) = ⊥
IsAside (group.Deliver k) = ⊥
IsAside (group.Lose k) = ⊥
IsAside (group.Repeat k) = ⊥
IsAside group.Kick = ⊥

pub aside_requests : (e : group.Event) (g : Group) → IsAside e → (group_step g e).requests ≡ g.requests
aside_requests (group.NewInterval acting up) g h = (same_step g (group.NewInterval acting up)).requests
aside_requests (group.Restart d) g h = (same_step g (group.Restart d)).requests
aside_requests (group.Submit s) g h = absurd h
aside_requests (group.Deliver k) g h = absurd h
aside_requests (group.Lose k) g h = absurd h
aside_requests (group.Repeat k) g h = absurd h
aside_requests group.Kick g h = absurd h

aside_made : (e : group.Event) (g : Group) → IsAside e → made_by g e ≡ 0
aside_made (group.NewInterval acting up) g h = refl
aside_made (group.Restart d) g h = refl
aside_made (group.Submit s) g h = absurd h
aside_made (group.Deliver k) g h = absurd h
aside_made (group.Lose k) g h = absurd h
aside_made (group.Repeat k) g h = absurd h
aside_made group.Kick g h = absurd h

count_stays : (c : ℕ) (e : group.Event) (g : Group) → IsAside e → KeepsCount c g e → settle_count (group_step g e) ≡ settle_count g
count_stays c e g h keeps =
    let made : made_by g e ≡ 0 = aside_made e g h in
    let same : length (group_step g e).requests ≡ length g.requests = ap length (aside_requests e g h) in
    let sum : made_by g e + settle_count (group_step g e) + c * length g.requests ≡ settle_count g + c * length g.requests = keeps ∙ ap (λ n. settle_count g + c * n) same in
    plain (made_by g e) (settle_count (group_step g e)) (settle_count g) (c * length g.requests) made sum
  where
    plain : (m a b x : ℕ) → m ≡ 0 → m + a + x ≡ b + x → a ≡ b
    plain m a b x none sum = omega arith

pub due_stays : (least : ℕ) (acting : List ℕ) (g : Group) (e : group.Event) → Steady least acting g → IsCalm acting e → IsAside e → settle_count (group_step g e) ≡ settle_count g
due_stays least acting g e h fits still = go (nat_le least (length acting)) refl
  where
    go : (b : Bool) → nat_le least (length acting) ≡ b → settle_count (group_step g e) ≡ settle_count g
    go true is = count_stays (request_cost (length acting)) e g still (serving_keeps_count least h.count acting h.up g e (quiet least acting g h (le_true least (length acting) is)) h.calm fits)
    go false is = count_stays (unserved_cost (length acting)) e g still (waiting_keeps_count least h.count acting h.up g e (small least acting g h (le_false least (length acting) is)) h.calm fits)

-- ---- once it settled

pub record Rests (least : ℕ) (acting : List ℕ) (g : Group) : Type 0 where
  pub empty : (settled_group g).wire ≡ []
  pub nothing : settle_count (settled_group g) ≡ 0
  pub answers : (settled_group g).answers ≡ map answer_with (settled_group g).audit
  pub served : nat_le least (length acting) ≡ true → map (λ e. e.sealed) (settled_group g).audit ≡ g.requests
  pub waits : nat_le least (length acting) ≡ false → (settled_group g).audit ≡ []

none_due : (g : Group) → g.wire ≡ [] → settle_count g ≡ 0
none_due g empty = delivered_idle (budget g) g (ap (λ w. slice_get w 0) empty)

other_true : (b : Bool) → b ≡ true → b ≡ false → ⊥
other_true b x y = cc

pub rests : (least : ℕ) (acting : List ℕ) (g : Group) → Steady least acting g → Rests least acting g
rests least acting g h = go (nat_le least (length acting)) refl
  where
    go : (b : Bool) → nat_le least (length acting) ≡ b → Rests least acting g
    go true is =
        let enough = quiet least acting g h (le_true least (length acting) is) in
        let t = serves_in_time least h.count acting h.up g enough h.calm in
        let o : DecidesInOrder g = decides_in_order least h.count acting h.up g enough h.calm in
        record {
          empty = t.served.empty;
          nothing = none_due (settled_group g) t.served.empty;
          answers = o.answers ∙ ap (map answer_with) (sym o.decided);
          served = λ e. o.order;
          waits = λ e. absurd (other_true (nat_le least (length acting)) is e);
        }
    go false is =
        let n = answers_nothing least h.count acting h.up g (small least acting g h (le_false least (length acting) is)) h.calm in
        record {
          empty = n.unserved.empty;
          nothing = none_due (settled_group g) n.unserved.empty;
          answers = n.unserved.unanswered ∙ ap (map answer_with) (sym n.unserved.undecided);
          served = λ e. absurd (other_true (nat_le least (length acting)) e is);
          waits = λ e. n.unserved.undecided;
        }
