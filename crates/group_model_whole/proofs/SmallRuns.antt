-- A group whose set is too small, from its start: it answers nothing, in a number of deliveries that is known before.
use Rattle.store_core.specs.declared.sealed.GroupId.{GroupId}
use Rattle.std.proofs.Common.{ℕ, ◌≡◌, ◌<◌, ◌+◌, ◌*◌, true, List, [], ◌∷◌, ◌++◌, map, length, take, refl, sym, ◌∙◌, ap, subst, arith, inl}
use Rattle.std.specs.Prelude.{None}
use Rattle.entry_core.specs.Log.{is_in}
use Rattle.store_core.specs.Request.{Sealed}
use Rattle.group_model_whole.specs.ActingSets.{daemons}
use Rattle.group_model_whole.specs.Steps.{blank}
use Rattle.group_model_whole.specs.Types.{Interval, Sent}
use Rattle.group_model_whole.specs.Each.{Each}
use Rattle.group_model_whole.specs.Group.{Group, Event, Submit, EventFits, to_daemon, to_primary, is_submitted, has_all_requests, group_step, run, start, refusal_of}
use Rattle.group_model_whole.specs.Budget.{budget, settled_group, settle_count}
use Rattle.group_model_whole.specs.Quiet.{deliveries_made}
use Rattle.group_model_whole.specs.Calm.{IsCalm, OnlyCalm, IsSmall, IsUnserved, unserved_cost}
use Rattle.group_model_whole.proofs.Eaches.{Each-push, Each-weaker, Each-map_all}
use Rattle.group_model_whole.proofs.Groups.{run-append, daemons_count}
use Rattle.group_model_whole.proofs.Settles.{Bounded, run_bounded, settle_done}
use Rattle.group_model_whole.proofs.CalmRuns.{Counting, Ran, ran, Settled, settles}
use Rattle.group_model_whole.proofs.QuietLists.{append-nil, each_sent}
use Rattle.group_model_whole.proofs.QuietRuns.{blank_at}
use Rattle.group_model_whole.proofs.QuietLaws.{calm_fits, opened_is, accepted_parts}
use Rattle.group_model_whole.proofs.SmallStates.{IsResting, Resting, Small, small_weights, small_next, small_opens, small_interval, small_restart}

none_sent : (set : List ℕ) → to_primary set [] ≡ []
none_sent [] = refl
none_sent (d ∷ ds) = refl

told_weigh : (sets : List (List ℕ)) (xs : List ℕ) → small_weights (map (λ d. to_daemon d (Interval sets)) xs) ≡ length xs
told_weigh sets [] = refl
told_weigh sets (x ∷ xs) = let rest = told_weigh sets xs in omega arith

module _ (z : ℕ) (acting : List ℕ) (few : length acting < z) where
  abbrev cost : ℕ
  cost = unserved_cost (length acting)

  small_start : (group : GroupId) (count : ℕ) (up : List ℕ) → ((d : ℕ) → is_in acting d ≡ true → d < length (take count daemons)) → ((d : ℕ) → is_in acting d ≡ true → is_in up d ≡ true) →
      Resting z acting (start group z count acting up) (length acting)
  small_start group count up exist live =
      let news : List Sent = map (λ d. to_daemon d (Interval (acting ∷ []))) acting in
      let wire : news ++ to_primary acting [] ≡ news = ap (λ v. map (λ d. to_daemon d (Interval (acting ∷ []))) acting ++ v) (none_sent acting) ∙ append-nil (map (λ d. to_daemon d (Interval (acting ∷ []))) acting) in
      record {
        copies = Each-map_all (IsResting z) (blank z) (λ n. record { idle = refl; none = refl; least = refl }) (take count daemons);
        exist = λ d is. record { copy = blank z (0 + d); here = blank_at z 0 count daemons d daemons_count (exist d is) };
        live = live;
        wire = subst (Each (Small z acting)) (sym wire) (each_sent (Small z acting) (λ d. to_daemon d (Interval (acting ∷ []))) acting (λ d is. inl (record { member = d; among = is; is = refl })));
        sets = refl;
        answers = refl;
        audit = refl;
        owes = sym (ap small_weights wire ∙ told_weigh (acting ∷ []) acting);
      }

  -- what is due, over calm events

  small_counted : Counting acting cost (Resting z acting)
  small_counted = record {
    takes = λ g s due new now. small_opens z acting g s due now;
    next = small_next z acting few;
    moves = small_interval z acting;
    restarts = small_restart z acting;
  }

  record Total (g : Group) (due : ℕ) : Type 0 where
    count : settle_count g ≡ due
    unserved : IsUnserved g

  totals : (g : Group) (due : ℕ) → Resting z acting g due → Bounded g → Total g due
  totals g due now bounded =
      let empty : (settled_group g).wire ≡ [] = settle_done (budget g) g bounded (omega arith) in
      let s : Settled (Resting z acting) (budget g) g due = settles acting cost (Resting z acting) small_counted (budget g) g due now in
      record {
        count = (let none : s.left ≡ 0 = s.now.owes ∙ ap small_weights empty in let sum = s.sum in omega arith);
        unserved = record { unanswered = s.now.answers; undecided = s.now.audit; empty = empty };
      }

-- what the law says of one group
pub record Unserved (group : GroupId) (z count : ℕ) (acting up : List ℕ) (events : List Event) : Type 0 where
  pub unserved : IsUnserved (run events (start group z count acting up))
  pub sum : deliveries_made events (start group z count acting up) + settle_count (run events (start group z count acting up)) ≡
      length acting + unserved_cost (length acting) * length (run events (start group z count acting up)).requests
  pub more : (s : Sealed) → refusal_of (run events (start group z count acting up)) (Submit s) ≡ None →
      settle_count (group_step (run events (start group z count acting up)) (Submit s)) ≡ settle_count (run events (start group z count acting up)) + unserved_cost (length acting)

pub small_counts : (group : GroupId) (z count : ℕ) (acting up : List ℕ) (events : List Event) → IsSmall z count acting up → OnlyCalm acting events → Unserved group z count acting up events
small_counts group z count acting up events small fits =
    let begun : Group = start group z count acting up in
    let g : Group = run events (start group z count acting up) in
    let begins : Resting z acting (start group z count acting up) (length acting) = small_start z acting small.few group count up small.exist small.live in
    let r : Ran (unserved_cost (length acting)) (Resting z acting) (start group z count acting up) g (length acting) (deliveries_made events (start group z count acting up)) =
    ran acting (unserved_cost (length acting)) (Resting z acting) (small_counted z acting small.few) events (start group z count acting up) (length acting) fits begins in
    let each : Each EventFits events = Each-weaker (IsCalm acting) EventFits (calm_fits acting small.set) events fits in
    let t : Total z acting small.few g r.left = totals z acting small.few g r.left r.now (run_bounded group z count acting up events small.set each) in
    record {
      unserved = t.unserved;
      sum = (
          let sum : deliveries_made events (start group z count acting up) + r.left + unserved_cost (length acting) * 0 ≡ length acting + unserved_cost (length acting) * length g.requests = r.sum in
          let all = t.count in
          omega arith);
      more = λ s accepted. (
          let parts = accepted_parts (is_submitted g.requests s.id) (has_all_requests g) accepted in
          let opened = opened_is g s parts.0 parts.1 in
          let now : Resting z acting (group_step g (Submit s)) (r.left + unserved_cost (length acting)) = subst (λ v. Resting z acting v (r.left + unserved_cost (length acting))) (sym opened) (small_opens z acting g s r.left r.now) in
          let bounded : Bounded (group_step g (Submit s)) = subst Bounded (run-append events (Submit s ∷ []) (start group z count acting up))
          (run_bounded group z count acting up (events ++ Submit s ∷ []) small.set (Each-push EventFits events (Submit s) each tt)) in
          let later : Total z acting small.few (group_step g (Submit s)) (r.left + unserved_cost (length acting)) = totals z acting small.few (group_step g (Submit s)) (r.left + unserved_cost (length acting)) now bounded in
          let a = later.count in
          let b = t.count in
          omega arith);
    }

pub small_opening : (group : GroupId) (z count : ℕ) (acting up : List ℕ) → IsSmall z count acting up → settle_count (start group z count acting up) ≡ length acting
small_opening group z count acting up small =
    let c : Unserved group z count acting up [] = small_counts group z count acting up [] small tt in
    let sum : 0 + settle_count (start group z count acting up) ≡ length acting + unserved_cost (length acting) * 0 = c.sum in
    omega arith
