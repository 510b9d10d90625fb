-- The laws of groups that send suffixes, by those of the groups for which they stand.
use Rattle.std.proofs.Common.{ℕ, ◌≡◌, List, [], length, refl, sym, ◌∙◌, subst}
use Rattle.store_core.specs.declared.sealed.GroupId.{GroupId}
use Rattle.group_model_whole.specs.Each.{Each}
use Rattle.group_model_whole.specs.Asked.{HasSubmit}
use Rattle.group_model_whole.specs.Group.{Group as WholeGroup, Event, run as whole_run, start as whole_start}
use Rattle.group_model_whole.proofs.Kept.{answer_replied}
use Rattle.group_model_whole.specs.Quiet.{IsQuiet, opening_cost, request_cost}
use Rattle.group_model_whole.specs.Calm.{IsCalm, IsSmall, IsCalmGroup as IsWholeCalmGroup, unserved_cost}
use Rattle.group_model_whole.specs.Laws.{made_so_far as whole_made_so_far, ServesInTime as WholeServesInTime, AnswersNothing as WholeAnswersNothing}
use Rattle.group_model_whole.proofs.QuietLaws.{quiet_opening as whole_quiet_opening}
use Rattle.group_model_whole.proofs.SmallRuns.{small_opening as whole_small_opening}
use Rattle.group_model_whole.proofs.Statements.{serves_in_time as whole_serves_in_time, decides_in_order as whole_decides_in_order, answers_nothing as whole_answers_nothing, serving_keeps_count as whole_serving_keeps_count, waiting_keeps_count as whole_waiting_keeps_count}
use Rattle.group_model.specs.Group.{Group, run, start}
use Rattle.group_model.specs.Budget.{settle_count}
use Rattle.group_model.specs.Reached.{IsReached}
use Rattle.group_model.proofs.Events.{Lock, start_locked, reached_locked}
use Rattle.group_model.specs.Calm.{IsCalmGroup}
use Rattle.group_model.specs.Laws.{OnlyAdds, AnswersAreDecided, made_so_far, ServesInTime, DecidesInOrder, AnswersNothing, KeepsCount}
use Rattle.group_model.proofs.Additions.{audit_grows, answer_stands}
use Rattle.group_model.proofs.Twins.{reached_step, reached_holds, all_submitted}
use Rattle.group_model.proofs.Counts.{count_same}
use Rattle.group_model.proofs.Made.{all_made_same}
use Rattle.group_model.proofs.Serving.{serves_same, order_same, nothing_same, keeps_same}

pub only_adds : (g : Group) → IsReached g → OnlyAdds g
only_adds g r = record {
  audit = λ events. audit_grows [] events g;
  answers = λ events id reply is. answer_stands id reply [] events g is;
  reached = λ e fits. reached_step g e r fits;
}

pub answers_decided : (g : Group) → IsReached g → AnswersAreDecided g
answers_decided g r id reply is = answer_replied g.audit g.answers id reply (reached_holds g r).answers is

pub were_submitted : (g : Group) (r : IsReached g) → Each (HasSubmit r.events) g.requests
were_submitted g r =
    let P : Group → Type 0 = λ v. Each (HasSubmit r.events) v.requests in
    subst P r.is (all_submitted r.group r.min_size r.daemons r.acting r.up r.events)

-- one set

pub quiet_opening : (group : GroupId) (z count : ℕ) (acting up : List ℕ) → IsQuiet z count acting up → settle_count (start group z count acting up) ≡ opening_cost (length acting)
quiet_opening group z count acting up quiet = sym (count_same (start group z count acting up) (whole_start group z count acting up) (start_locked group z count acting up)) ∙ whole_quiet_opening group z count acting up quiet

pub small_opening : (group : GroupId) (z count : ℕ) (acting up : List ℕ) → IsSmall z count acting up → settle_count (start group z count acting up) ≡ length acting
small_opening group z count acting up small = sym (count_same (start group z count acting up) (whole_start group z count acting up) (start_locked group z count acting up)) ∙ whole_small_opening group z count acting up small

module _ (z count : ℕ) (acting up : List ℕ) (g : Group) (calm : IsCalmGroup z count acting up g) where
  -- what calm events made, and what they make of a group that sends whole logs

  abbrev made : Group
  made = run calm.events (start calm.group z count acting up)

  abbrev twin : WholeGroup
  twin = whole_run calm.events (whole_start calm.group z count acting up)

  lock : Lock made twin
  lock = reached_locked calm.group z count acting up calm.events

  abbrev twin_calm : IsWholeCalmGroup z count acting up twin
  twin_calm = record { group = calm.group; events = calm.events; calm = calm.calm; is = refl }

  made_alike : whole_made_so_far twin_calm ≡ made_so_far calm
  made_alike = all_made_same calm.events (start calm.group z count acting up) (whole_start calm.group z count acting up) (start_locked calm.group z count acting up)

  serves : IsQuiet z count acting up → ServesInTime (length acting) (made_so_far calm) g
  serves quiet =
      let P : Group → Type 0 = λ v. ServesInTime (length acting) (made_so_far calm) v in
      let there : WholeServesInTime (length acting) (made_so_far calm) twin = subst (λ n. WholeServesInTime (length acting) n twin) made_alike (whole_serves_in_time z count acting up twin quiet twin_calm) in
      subst P calm.is (serves_same made twin lock (length acting) (made_so_far calm) there)

  decides : IsQuiet z count acting up → DecidesInOrder g
  decides quiet = subst DecidesInOrder calm.is (order_same made twin lock (whole_decides_in_order z count acting up twin quiet twin_calm))

  waits : IsSmall z count acting up → AnswersNothing (length acting) (made_so_far calm) g
  waits small =
      let P : Group → Type 0 = λ v. AnswersNothing (length acting) (made_so_far calm) v in
      let there : WholeAnswersNothing (length acting) (made_so_far calm) twin = subst (λ n. WholeAnswersNothing (length acting) n twin) made_alike (whole_answers_nothing z count acting up twin small twin_calm) in
      subst P calm.is (nothing_same made twin lock (length acting) (made_so_far calm) there)

  counts : (e : Event) → IsQuiet z count acting up → IsCalm acting e → KeepsCount (request_cost (length acting)) g e
  counts e quiet fits =
      let P : Group → Type 0 = λ v. KeepsCount (request_cost (length acting)) v e in
      subst P calm.is (keeps_same made twin lock (request_cost (length acting)) e (whole_serving_keeps_count z count acting up twin e quiet twin_calm fits))

  counts_waiting : (e : Event) → IsSmall z count acting up → IsCalm acting e → KeepsCount (unserved_cost (length acting)) g e
  counts_waiting e small fits =
      let P : Group → Type 0 = λ v. KeepsCount (unserved_cost (length acting)) v e in
      subst P calm.is (keeps_same made twin lock (unserved_cost (length acting)) e (whole_waiting_keeps_count z count acting up twin e small twin_calm fits))

pub serves_in_time : (min_size count : ℕ) (acting up : List ℕ) (g : Group) → IsQuiet min_size count acting up → (calm : IsCalmGroup min_size count acting up g) → ServesInTime (length acting) (made_so_far calm) g
serves_in_time z count acting up g quiet calm = serves z count acting up g calm quiet

pub decides_in_order : (min_size count : ℕ) (acting up : List ℕ) (g : Group) → IsQuiet min_size count acting up → IsCalmGroup min_size count acting up g → DecidesInOrder g
decides_in_order z count acting up g quiet calm = decides z count acting up g calm quiet

pub answers_nothing : (min_size count : ℕ) (acting up : List ℕ) (g : Group) → IsSmall min_size count acting up → (calm : IsCalmGroup min_size count acting up g) → AnswersNothing (length acting) (made_so_far calm) g
answers_nothing z count acting up g small calm = waits z count acting up g calm small

pub serving_keeps_count : (min_size count : ℕ) (acting up : List ℕ) (g : Group) (e : Event) → IsQuiet min_size count acting up → IsCalmGroup min_size count acting up g → IsCalm acting e → KeepsCount (request_cost (length acting)) g e
serving_keeps_count z count acting up g e quiet calm fits = counts z count acting up g calm e quiet fits

pub waiting_keeps_count : (min_size count : ℕ) (acting up : List ℕ) (g : Group) (e : Event) → IsSmall min_size count acting up → IsCalmGroup min_size count acting up g → IsCalm acting e → KeepsCount (unserved_cost (length acting)) g e
waiting_keeps_count z count acting up g e small calm fits = counts_waiting z count acting up g calm e small fits
