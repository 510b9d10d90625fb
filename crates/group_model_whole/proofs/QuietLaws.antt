-- A quiet group answers every request, in a number of deliveries that is known before.
use Rattle.store_core.specs.declared.sealed.GroupId.{GroupId}
use Rattle.std.proofs.Common.{ℕ, zero, suc, ◌≡◌, ◌≤◌, ◌<◌, ◌+◌, ◌*◌, Bool, true, false, ◌==◌, List, [], ◌∷◌, ◌++◌, map, length, take, refl, sym, ◌∙◌, ap, subst, arith, if◌then◌else◌}
use Rattle.std.specs.Prelude.{Some, None, replicate}
use Rattle.std.proofs.lemmas.Bool.{or_right}
use Rattle.entry_core.specs.Log.{is_in, reply_in, Legal}
use Rattle.store_core.specs.Request.{Sealed}
use Rattle.group_model_whole.specs.ActingSets.{daemons}
use Rattle.group_model_whole.specs.Each.{Each}
use Rattle.group_messages.specs.declared.fault.GroupFault.TheVariants.{Doubled, Full}
use Rattle.group_model_whole.specs.Group.{Group, Event, IsSet, is_distinct, Submit, Deliver, Lose, Repeat, NewInterval, Restart, Kick, EventFits, is_submitted, has_all_requests, take_request, group_step, run, start, settle, answer_of, refusal_of}
use Rattle.group_model_whole.specs.Types.{EntryReply}
use Rattle.group_model_whole.specs.Replicated.{IsReplicated}
use Rattle.group_model_whole.specs.Asked.{IsReplied}
use Rattle.group_model_whole.specs.Budget.{budget, settled_group, settle_count}
use Rattle.group_model_whole.specs.Quiet.{IsQuiet, IsServed, deliveries_made, opening_cost, request_cost}
use Rattle.group_model_whole.specs.Calm.{IsCalm, OnlyCalm, log_of, answer_with}
use Rattle.group_model_whole.specs.Laws.{DecidesInOrder}
use Rattle.group_model_whole.proofs.Eaches.{Each-push, Each-weaker}
use Rattle.group_model_whole.proofs.Groups.{Good, run_good, start_good, replicated, audit_legal, run-append}
use Rattle.group_model_whole.proofs.Kept.{Kept, run_kept, start_kept, answer_replied}
use Rattle.group_model_whole.proofs.Submits.{settle_is_run}
use Rattle.group_model_whole.proofs.Settles.{Bounded, run_bounded, settle_done}
use Rattle.group_model_whole.proofs.QuietStates.{Due}
use Rattle.group_model_whole.proofs.QuietSteps.{IsIdle}
use Rattle.group_model_whole.proofs.CalmOrders.{InOrder, settled_order}
use Rattle.group_model_whole.proofs.CalmRuns.{Ran, ran}
use Rattle.group_model_whole.proofs.QuietRuns.{take_few, start_due, due_opens, counted, Ended, ends}

pub calm_fits : (acting : List ℕ) → IsSet acting → (e : Event) → IsCalm acting e → EventFits e
calm_fits acting set (Submit s) fits = tt
calm_fits acting set (Deliver k) fits = tt
calm_fits acting set (Lose k) fits = tt
calm_fits acting set (Repeat k) fits = tt
calm_fits acting set (NewInterval other up) fits = subst IsSet (sym fits.same) set
calm_fits acting set (Restart d) fits = tt
calm_fits acting set Kick fits = tt

times_few : (m n : ℕ) → m ≤ 5 → 2 * m * n ≤ 10 * n
times_few m zero few = omega arith
times_few m (suc n) few =
    let rest = times_few m n few in
    let one : 2 * m * suc n ≡ 2 * m * n + 2 * m = omega arith in
    let ten : 10 * suc n ≡ 10 * n + 10 = omega arith in
    omega arith

-- what any group keeps, once it settled

module _ (n : ℕ) (group : GroupId) (z count : ℕ) (acting up : List ℕ) (events : List Event) where
  abbrev begun : Group
  begun = start group z count acting up

  settled_good : Good (settle n (run events begun))
  settled_good = subst Good (sym (settle_is_run n events begun)) (run_good (events ++ replicate n (Deliver 0)) begun (start_good group z count acting up))

  settled_replicated : IsReplicated (settle n (run events begun))
  settled_replicated = replicated (settle n (run events begun)) settled_good

  settled_legal : Legal (settle n (run events begun)).audit
  settled_legal = audit_legal (settle n (run events begun)) settled_good

  settled_replied : (id : ℕ) (reply : EntryReply) → answer_of (settle n (run events begun)).answers id ≡ Some reply → IsReplied (settle n (run events begun)).audit id reply
  settled_replied id reply is =
      let kept : Kept (settle n (run events begun)) =
      subst Kept (sym (settle_is_run n events begun)) (run_kept (events ++ replicate n (Deliver 0)) begun (start_good group z count acting up) (start_kept group z count acting up)) in
      answer_replied (settle n (run events begun)).audit (settle n (run events begun)).answers id reply kept.answers is

record Total (z p : ℕ) (os : List ℕ) (once : is_distinct (p ∷ os) ≡ true) (g : Group) (due : ℕ) : Type 0 where
  count : settle_count g ≡ due
  served : IsServed g
  left : ℕ
  idle : IsIdle z p os once (settled_group g) left
  requests : (settled_group g).requests ≡ g.requests

-- what the law says of one group
pub record Counted (group : GroupId) (z count : ℕ) (acting up : List ℕ) (events : List Event) : Type 0 where
  pub served : IsServed (run events (start group z count acting up))
  pub sum : deliveries_made events (start group z count acting up) + settle_count (run events (start group z count acting up)) ≡
      opening_cost (length acting) + request_cost (length acting) * length (run events (start group z count acting up)).requests
  pub more : (s : Sealed) → refusal_of (run events (start group z count acting up)) (Submit s) ≡ None →
      settle_count (group_step (run events (start group z count acting up)) (Submit s)) ≡ settle_count (run events (start group z count acting up)) + request_cost (length acting)
  pub in_order : InOrder (settled_group (run events (start group z count acting up)))
  pub requests : (settled_group (run events (start group z count acting up))).requests ≡ (run events (start group z count acting up)).requests

pub opened_is : (g : Group) (s : Sealed) → is_submitted g.requests s.id ≡ false → has_all_requests g ≡ false → group_step g (Submit s) ≡ take_request g s
opened_is g s new room = ap (λ b. if b then g else (if has_all_requests g then g else take_request g s)) new ∙ ap (λ b. if b then g else take_request g s) room

pub accepted_parts : (a b : Bool) → (if a then Some Doubled else (if b then Some Full else None)) ≡ None → (a ≡ false) × (b ≡ false)
accepted_parts true b is = absurd (cc)
accepted_parts false true is = absurd (cc)
accepted_parts false false is = (refl, refl)

module _ (z p : ℕ) (os : List ℕ) (once : is_distinct (p ∷ os) ≡ true) (enough : z ≤ length (p ∷ os)) (few : (d : ℕ) → is_in os d ≡ true → d < 16) where
  totals : (g : Group) (due : ℕ) → Due z p os g due → Bounded g → Total z p os once g due
  totals g due now bounded =
      let empty : (settled_group g).wire ≡ [] = settle_done (budget g) g bounded (omega arith) in
      let e : Ended z p os once enough few (budget g) g due = ends z p os once enough few (budget g) g due now empty in
      record { count = e.count; served = record { answered = e.answered; empty = empty }; left = e.left; idle = e.idle; requests = e.requests }

  counts : (group : GroupId) (count : ℕ) (up : List ℕ) (events : List Event) → IsQuiet z count (p ∷ os) up → OnlyCalm (p ∷ os) events → Counted group z count (p ∷ os) up events
  counts group count up events quiet fits =
      let g : Group = run events (start group z count (p ∷ os) up) in
      let open_due : Due z p os (start group z count (p ∷ os) up) (5 * length os + 1) = start_due z p os once enough few group count up quiet.exist quiet.live in
      let r : Ran (2 * length os + 2) (Due z p os) (start group z count (p ∷ os) up) g (5 * length os + 1) (deliveries_made events (start group z count (p ∷ os) up)) =
      ran (p ∷ os) (2 * length os + 2) (Due z p os) (counted z p os once enough few) events (start group z count (p ∷ os) up) (5 * length os + 1) fits open_due in
      let each : Each EventFits events = Each-weaker (IsCalm (p ∷ os)) EventFits (calm_fits (p ∷ os) quiet.set) events fits in
      let t : Total z p os once g r.left = totals g r.left r.now (run_bounded group z count (p ∷ os) up events quiet.set each) in
      let cost : 2 * length (p ∷ os) ≡ 2 * length os + 2 = omega arith in
      record {
        served = t.served;
        sum = (
            let times : 2 * length (p ∷ os) * length g.requests ≡ (2 * length os + 2) * length g.requests = ap (λ v. v * length g.requests) cost in
            let sum : deliveries_made events (start group z count (p ∷ os) up) + r.left + (2 * length os + 2) * 0 ≡ 5 * length os + 1 + (2 * length os + 2) * length g.requests = r.sum in
            let all = t.count in
            omega arith);
        more = λ s accepted. (
            let parts = accepted_parts (is_submitted g.requests s.id) (has_all_requests g) accepted in
            let opened = opened_is g s parts.0 parts.1 in
            let now : Due z p os (group_step g (Submit s)) (r.left + (2 * length os + 2)) = subst (λ v. Due z p os v (r.left + (2 * length os + 2))) (sym opened) (due_opens z p os once enough few g s r.left parts.0 r.now) in
            let bounded : Bounded (group_step g (Submit s)) = subst Bounded (run-append events (Submit s ∷ []) (start group z count (p ∷ os) up))
            (run_bounded group z count (p ∷ os) up (events ++ Submit s ∷ []) quiet.set (Each-push EventFits events (Submit s) each tt)) in
            let later : Total z p os once (group_step g (Submit s)) (r.left + (2 * length os + 2)) = totals (group_step g (Submit s)) (r.left + (2 * length os + 2)) now bounded in
            let a = later.count in
            let b = t.count in
            omega arith);
        in_order = settled_order z p os once (settled_group g) t.left t.idle
            (settled_replicated (budget g) group z count (p ∷ os) up events) (settled_legal (budget g) group z count (p ∷ os) up events) (settled_replied (budget g) group z count (p ∷ os) up events);
        requests = t.requests;
      }

pub calm_counts : (group : GroupId) (z count : ℕ) (acting up : List ℕ) (events : List Event) → IsQuiet z count acting up → OnlyCalm acting events → Counted group z count acting up events
calm_counts group z count [] up events quiet fits = absurd (omega (arith, quiet.some))
calm_counts group z count (p ∷ os) up events quiet fits =
    counts z p os quiet.set.once quiet.enough (λ d is. (
    let below : d < length (take count daemons) = quiet.exist d (or_right (p == d) (is_in os d) is) in
    let most = take_few count daemons in
    omega arith)) group count up events quiet fits

pub quiet_opening : (group : GroupId) (z count : ℕ) (acting up : List ℕ) → IsQuiet z count acting up → settle_count (start group z count acting up) ≡ opening_cost (length acting)
quiet_opening group z count acting up quiet =
    let c : Counted group z count acting up [] = calm_counts group z count acting up [] quiet tt in
    let sum : 0 + settle_count (start group z count acting up) ≡ opening_cost (length acting) + request_cost (length acting) * 0 = c.sum in
    omega arith

pub calm_at_most : (group : GroupId) (z count : ℕ) (acting up : List ℕ) (events : List Event) → IsQuiet z count acting up → OnlyCalm acting events →
    settle_count (run events (start group z count acting up)) ≤ 21 + 10 * length (run events (start group z count acting up)).requests
calm_at_most group z count acting up events quiet fits =
    let c : Counted group z count acting up events = calm_counts group z count acting up events quiet fits in
    let sum = c.sum in
    let few = quiet.set.few in
    let most = times_few (length acting) (length (run events (start group z count acting up)).requests) few in
    omega arith

-- the same, with the requests as they were before it settled

pub calm_order : (group : GroupId) (z count : ℕ) (acting up : List ℕ) (events : List Event) → IsQuiet z count acting up → OnlyCalm acting events → DecidesInOrder (run events (start group z count acting up))
calm_order group z count acting up events quiet fits =
    let c : Counted group z count acting up events = calm_counts group z count acting up events quiet fits in
    let o : InOrder (settled_group (run events (start group z count acting up))) = c.in_order in
    let same : log_of (settled_group (run events (start group z count acting up))).requests ≡ log_of (run events (start group z count acting up)).requests = ap log_of c.requests in
    record {
      order = o.order ∙ c.requests;
      decided = o.decided ∙ same;
      answers = o.answers ∙ ap (map answer_with) same;
      answered = λ id. o.answered id ∙ ap (λ v. reply_in v id) same;
    }
