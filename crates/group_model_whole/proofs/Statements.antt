-- The laws of groups, from what holds of every list of events.
use Rattle.std.proofs.Common.{ℕ, List, [], slice_get, length, subst, ap, arith}
use Rattle.group_model_whole.specs.Each.{Each}
use Rattle.group_model_whole.specs.Group.{Group, Event, IsSet, start}
use Rattle.group_model_whole.specs.Reached.{IsReached}
use Rattle.group_model_whole.specs.Asked.{HasSubmit}
use Rattle.group_model_whole.specs.Budget.{budget}
use Rattle.group_model_whole.specs.Quiet.{IsQuiet, request_cost}
use Rattle.group_model_whole.specs.Calm.{IsCalm, IsSmall, IsCalmGroup, unserved_cost}
use Rattle.group_model_whole.specs.Recovering.{IsReady, Recovers}
use Rattle.group_model_whole.specs.Laws.{OnlyAdds, AnswersAreDecided, SettlingEnds, OneEntryIsOpen, made_so_far, ServesInTime, DecidesInOrder, AnswersNothing, KeepsCount}
use Rattle.group_model_whole.specs.Within.{IsReachedWithin}
use Rattle.group_model_whole.proofs.Groups.{Good, audit_grows}
use Rattle.group_model_whole.proofs.Kept.{answer_stands, answer_replied}
use Rattle.group_model_whole.proofs.Reached.{reached_step, reached_good, reached_kept, reached_bounded}
use Rattle.group_model_whole.proofs.Refusals.{run_sets, start_sets}
use Rattle.group_model_whole.proofs.Submits.{all_submitted, settle_is_run}
use Rattle.group_model_whole.proofs.Settles.{Bounded, deliver_lowers, lose_lowers, settle_done, settle_idle, settle_more, delivered_few}
use Rattle.group_model_whole.proofs.Settling.{delivered_idle}
use Rattle.group_model_whole.proofs.Opens.{has_history, step_keeps, open_shown}
use Rattle.group_model_whole.proofs.QuietLaws.{Counted, calm_counts, calm_at_most, calm_order}
use Rattle.group_model_whole.proofs.SmallRuns.{Unserved, small_counts}
use Rattle.group_model_whole.proofs.CalmGroups.{calm_each, small_each}
use Rattle.group_model_whole.proofs.RecoveryLaws.{recovery}

pub only_adds : (g : Group) → IsReached g → OnlyAdds g
only_adds g r = record {
  audit = λ events. audit_grows [] events g;
  answers = λ events id reply is. answer_stands id reply [] events g is;
  reached = λ e fits. reached_step g e r fits;
}

pub answers_decided : (g : Group) → IsReached g → AnswersAreDecided g
answers_decided g r id reply is = answer_replied g.audit g.answers id reply (reached_kept g r).answers is

pub were_submitted : (g : Group) (r : IsReached g) → Each (HasSubmit r.events) g.requests
were_submitted g r =
    let P : Group → Type 0 = λ v. Each (HasSubmit r.events) v.requests in
    subst P r.is (all_submitted r.group r.min_size r.daemons r.acting r.up r.events)

pub sets_fit : (g : Group) → IsReached g → Each IsSet g.sets
sets_fit g r =
    let P : Group → Type 0 = λ v. Each IsSet v.sets in
    subst P r.is (run_sets r.events (start r.group r.min_size r.daemons r.acting r.up) r.fit (start_sets r.group r.min_size r.daemons r.acting r.up r.begins))

pub settling : (g : Group) → IsReached g → SettlingEnds g
settling g r =
    let ok : Bounded g = reached_bounded g r in
    record {
      delivers = λ k m is. deliver_lowers g k m is ok;
      loses = λ k m is. lose_lowers g k m is;
      empties = settle_done (budget g) g ok (omega arith);
      counts = delivered_few (budget g) g ok;
      runs = λ n. settle_is_run n [] g;
      stops = λ n enough. settle_more n g ok enough;
      rests = λ empty. (settle_idle (budget g) g (ap (λ w. slice_get w 0) empty), delivered_idle (budget g) g (ap (λ w. slice_get w 0) empty));
    }

pub one_open : (g : Group) → IsReached g → OneEntryIsOpen g
one_open g r =
    let good : Good g = reached_good g r in
    record {
      history = has_history g good;
      decided = λ d copy is. open_shown g good d copy is;
      keeps = λ e d before after is is'. step_keeps e g good d before is after is';
    }

pub serves_in_time : (min_size count : ℕ) (acting up : List ℕ) (g : Group) → IsQuiet min_size count acting up → (calm : IsCalmGroup min_size count acting up g) → ServesInTime (length acting) (made_so_far calm) g
serves_in_time z count acting up g quiet calm =
    let P : Group → Type 0 = λ v. ServesInTime (length acting) (made_so_far calm) v in
    let counts : Counted calm.group z count acting up calm.events = calm_counts calm.group z count acting up calm.events quiet calm.calm in
    subst P calm.is (record {
      served = counts.served;
      counted = counts.sum;
      one_more = counts.more;
      at_most = calm_at_most calm.group z count acting up calm.events quiet calm.calm;
    })

pub decides_in_order : (min_size count : ℕ) (acting up : List ℕ) (g : Group) → IsQuiet min_size count acting up → IsCalmGroup min_size count acting up g → DecidesInOrder g
decides_in_order z count acting up g quiet calm = subst DecidesInOrder calm.is (calm_order calm.group z count acting up calm.events quiet calm.calm)

pub answers_nothing : (min_size count : ℕ) (acting up : List ℕ) (g : Group) → IsSmall min_size count acting up → (calm : IsCalmGroup min_size count acting up g) → AnswersNothing (length acting) (made_so_far calm) g
answers_nothing z count acting up g small calm =
    let P : Group → Type 0 = λ v. AnswersNothing (length acting) (made_so_far calm) v in
    let counts : Unserved calm.group z count acting up calm.events = small_counts calm.group z count acting up calm.events small calm.calm in
    subst P calm.is (record { unserved = counts.unserved; counted = counts.sum; one_more = counts.more })

pub serving_keeps_count : (min_size count : ℕ) (acting up : List ℕ) (g : Group) (e : Event) → IsQuiet min_size count acting up → IsCalmGroup min_size count acting up g → IsCalm acting e → KeepsCount (request_cost (length acting)) g e
serving_keeps_count z count acting up g e quiet calm fits =
    let P : Group → Type 0 = λ v. KeepsCount (request_cost (length acting)) v e in
    subst P calm.is (calm_each calm.group z count acting up calm.events e quiet calm.calm fits)

pub waiting_keeps_count : (min_size count : ℕ) (acting up : List ℕ) (g : Group) (e : Event) → IsSmall min_size count acting up → IsCalmGroup min_size count acting up g → IsCalm acting e → KeepsCount (unserved_cost (length acting)) g e
waiting_keeps_count z count acting up g e small calm fits =
    let P : Group → Type 0 = λ v. KeepsCount (unserved_cost (length acting)) v e in
    subst P calm.is (small_each calm.group z count acting up calm.events e small calm.calm fits)

pub recovers : (g : Group) → IsReachedWithin g → IsReady g → Recovers g
recovers g within ready =
    let r : IsReached g = within.reached in
    let P : Group → Type 0 = λ v. IsReady v → Recovers v in
    subst P r.is (recovery r.group r.min_size r.daemons r.acting r.up r.events r.least r.begins r.fit within.first within.later) ready
