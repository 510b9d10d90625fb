-- What a group has served once it settled, and in how many deliveries.
use Rattle.std.proofs.Common.{ℕ, ◌≡◌, ◌+◌, ◌*◌, not, List, [], map, length, sym, ◌∙◌, ap, subst, arith}
use Rattle.std.specs.Prelude.{None}
use Rattle.std.specs.List.{filter}
use Rattle.entry_core.specs.Log.{reply_in}
use Rattle.store_core.specs.Request.{Sealed}
use Rattle.store_core.specs.declared.entry.Entry.{Entry}
use Rattle.group_messages.specs.Answers.{Answer}
use Rattle.group_model_whole.specs.Group.{Group as WholeGroup, Event, Submit, group_step as whole_group_step, refusal_of as whole_refusal_of, is_answered, answer_of}
use Rattle.group_model_whole.specs.Budget.{settled_group as whole_settled_group, settle_count as whole_settle_count}
use Rattle.group_model_whole.specs.Quiet.{IsServed as IsWholeServed, made_by as whole_made_by, opening_cost, request_cost}
use Rattle.group_model_whole.specs.Calm.{IsUnserved as IsWholeUnserved, unserved_cost, log_of, answer_with}
use Rattle.group_model_whole.specs.Laws.{ServesInTime as WholeServesInTime, DecidesInOrder as WholeDecidesInOrder, AnswersNothing as WholeAnswersNothing, KeepsCount as WholeKeepsCount}
use Rattle.group_model.specs.Standing.{StandsFor}
use Rattle.group_model.specs.Group.{Group, group_step, refusal_of}
use Rattle.group_model.specs.Budget.{settled_group, settle_count}
use Rattle.group_model.proofs.Events.{Lock, step_locked}
use Rattle.group_model.specs.Quiet.{IsServed, made_by}
use Rattle.group_model.specs.Calm.{IsUnserved}
use Rattle.group_model.specs.Laws.{ServesInTime, DecidesInOrder, AnswersNothing, KeepsCount}
use Rattle.group_model.proofs.Twins.{lock_stands}
use Rattle.group_model.proofs.Counts.{count_same, settled_stands, empty_same, submit_same}
use Rattle.group_model.proofs.Made.{made_same}

module _ (g : Group) (w : WholeGroup) (l : Lock g w) where
  now : StandsFor g w
  now = lock_stands g w l

  later : StandsFor (settled_group g) (whole_settled_group w)
  later = settled_stands g w l

  next : (e : Event) → StandsFor (group_step g e) (whole_group_step w e)
  next e = lock_stands (group_step g e) (whole_group_step w e) (step_locked g w e l)

  pub served_same : IsWholeServed w → IsServed g
  served_same served = record {
    answered = subst (λ (rs : List Sealed). filter (λ (r : Sealed). not (is_answered (settled_group g).answers r.id)) rs ≡ []) later.requests
        (subst (λ (as' : List Answer). filter (λ (r : Sealed). not (is_answered as' r.id)) (whole_settled_group w).requests ≡ []) later.answers served.answered);
    empty = empty_same (settled_group g) (whole_settled_group w) later served.empty;
  }

  counted_same : (opening cost made : ℕ) → made + whole_settle_count w ≡ opening + cost * length w.requests → made + settle_count g ≡ opening + cost * length g.requests
  counted_same opening cost made counted =
      subst (λ (rs : List Sealed). made + settle_count g ≡ opening + cost * length rs) now.requests (subst (λ n. made + n ≡ opening + cost * length w.requests) (count_same g w l) counted)

  more_same : (cost : ℕ) (r : Sealed) → (whole_refusal_of w (Submit r) ≡ None → whole_settle_count (whole_group_step w (Submit r)) ≡ whole_settle_count w + cost) →
      refusal_of g (Submit r) ≡ None → settle_count (group_step g (Submit r)) ≡ settle_count g + cost
  more_same cost r more free =
      let taken = more (submit_same g w r now ∙ free) in
      sym (count_same (group_step g (Submit r)) (whole_group_step w (Submit r)) (step_locked g w (Submit r) l)) ∙ taken ∙ ap (λ n. n + cost) (count_same g w l)

  pub serves_same : (members made : ℕ) → WholeServesInTime members made w → ServesInTime members made g
  serves_same members made serves = record {
    served = served_same serves.served;
    counted = counted_same (opening_cost members) (request_cost members) made serves.counted;
    one_more = λ r free. more_same (request_cost members) r (serves.one_more r) free;
    at_most = (let count = count_same g w l in let many : length w.requests ≡ length g.requests = ap (λ (rs : List Sealed). length rs) now.requests in let most = serves.at_most in omega arith);
  }

  pub order_same : WholeDecidesInOrder w → DecidesInOrder g
  order_same decides = record {
    order = ap (λ (es : List Entry). map (λ (e : Entry). e.sealed) es) (sym later.audit) ∙ decides.order ∙ now.requests;
    decided = sym later.audit ∙ decides.decided ∙ ap log_of now.requests;
    answers = sym later.answers ∙ decides.answers ∙ ap (λ (rs : List Sealed). map answer_with (log_of rs)) now.requests;
    answered = λ id. (ap (λ (as' : List Answer). answer_of as' id) (sym later.answers) ∙ decides.answered id ∙ ap (λ (rs : List Sealed). reply_in (log_of rs) id) now.requests);
  }

  unserved_same : IsWholeUnserved w → IsUnserved g
  unserved_same none = record {
    unanswered = sym later.answers ∙ none.unanswered;
    undecided = sym later.audit ∙ none.undecided;
    empty = empty_same (settled_group g) (whole_settled_group w) later none.empty;
  }

  pub nothing_same : (members made : ℕ) → WholeAnswersNothing members made w → AnswersNothing members made g
  nothing_same members made nothing = record {
    unserved = unserved_same nothing.unserved;
    counted = counted_same members (unserved_cost members) made nothing.counted;
    one_more = λ r free. more_same (unserved_cost members) r (nothing.one_more r) free;
  }

  pub keeps_same : (cost : ℕ) (e : Event) → WholeKeepsCount cost w e → KeepsCount cost g e
  keeps_same cost e keeps =
      let made : made_by g e ≡ whole_made_by w e = sym (made_same g w e now) in
      let after : settle_count (group_step g e) ≡ whole_settle_count (whole_group_step w e) = sym (count_same (group_step g e) (whole_group_step w e) (step_locked g w e l)) in
      let asked : g.requests ≡ w.requests = sym now.requests in
      let before : whole_settle_count w ≡ settle_count g = count_same g w l in
      let asks : (whole_group_step w e).requests ≡ (group_step g e).requests = (next e).requests in
      (λ i. made i + after i + cost * length (asked i)) ∙ keeps ∙ (λ i. before i + cost * length (asks i))
