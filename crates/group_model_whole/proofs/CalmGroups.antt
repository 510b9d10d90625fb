-- A calm group stays one, and what each of its events adds to the deliveries that are due.
use Rattle.std.proofs.Common.{ℕ, zero, suc, ◌≡◌, ◌+◌, ◌*◌, List, [], ◌∷◌, ◌++◌, length, replicate, refl, sym, ◌∙◌, ap, arith}
use Rattle.store_core.specs.declared.sealed.GroupId.{GroupId}
use Rattle.group_model_whole.specs.Group.{Group, Event, Deliver, group_step, run, start}
use Rattle.group_model_whole.specs.Budget.{budget, settled_group, settle_count}
use Rattle.group_model_whole.specs.Quiet.{IsQuiet, made_by, deliveries_made, opening_cost, request_cost}
use Rattle.group_model_whole.specs.Calm.{IsCalm, OnlyCalm, IsSmall, IsCalmGroup, unserved_cost}
use Rattle.group_model_whole.proofs.Eaches.{Each-append, Each-push}
use Rattle.group_model_whole.proofs.Groups.{run-append}
use Rattle.group_model_whole.proofs.Submits.{settle_is_run}
use Rattle.group_model_whole.proofs.QuietLaws.{Counted, calm_counts}
use Rattle.group_model_whole.proofs.SmallRuns.{Unserved, small_counts}

deliveries-push : (es : List Event) (e : Event) (g : Group) → deliveries_made (es ++ e ∷ []) g ≡ deliveries_made es g + made_by (run es g) e
deliveries-push [] e g = omega arith
deliveries-push (x ∷ es) e g = let rest = deliveries-push es e (group_step g x) in omega arith

difference : (made all before after opening old new all' : ℕ) → all' ≡ all + made → all + before ≡ opening + old → all' + after ≡ opening + new → made + after + old ≡ before + new
difference made all before after opening old new all' grows was is = omega arith

-- where the events up to one and up to the next cost so much, that event changes what is due by what it takes and makes
one_more : (opening cost : ℕ) (begun : Group) (events : List Event) (e : Event) →
    deliveries_made events begun + settle_count (run events begun) ≡ opening + cost * length (run events begun).requests →
    deliveries_made (events ++ e ∷ []) begun + settle_count (run (events ++ e ∷ []) begun) ≡ opening + cost * length (run (events ++ e ∷ []) begun).requests →
    made_by (run events begun) e + settle_count (group_step (run events begun) e) + cost * length (run events begun).requests ≡
    settle_count (run events begun) + cost * length (group_step (run events begun) e).requests
one_more opening cost begun events e was is =
    let same : run (events ++ e ∷ []) begun ≡ group_step (run events begun) e = run-append events (e ∷ []) begun in
    difference _ _ _ _ _ _ _ _ (deliveries-push events e begun) was
    (ap (λ v. deliveries_made (events ++ e ∷ []) begun + settle_count v) (sym same) ∙ is ∙ ap (λ v. opening + cost * length v.requests) same)

pub calm_each : (group : GroupId) (z count : ℕ) (acting up : List ℕ) (events : List Event) (e : Event) → IsQuiet z count acting up → OnlyCalm acting events → IsCalm acting e →
    made_by (run events (start group z count acting up)) e + settle_count (group_step (run events (start group z count acting up)) e) + request_cost (length acting) * length (run events (start group z count acting up)).requests ≡
    settle_count (run events (start group z count acting up)) + request_cost (length acting) * length (group_step (run events (start group z count acting up)) e).requests
calm_each group z count acting up events e quiet fits fit =
    let was : Counted group z count acting up events = calm_counts group z count acting up events quiet fits in
    let is : Counted group z count acting up (events ++ e ∷ []) = calm_counts group z count acting up (events ++ e ∷ []) quiet (Each-push (IsCalm acting) events e fits fit) in
    one_more (opening_cost (length acting)) (request_cost (length acting)) (start group z count acting up) events e was.sum is.sum

pub small_each : (group : GroupId) (z count : ℕ) (acting up : List ℕ) (events : List Event) (e : Event) → IsSmall z count acting up → OnlyCalm acting events → IsCalm acting e →
    made_by (run events (start group z count acting up)) e + settle_count (group_step (run events (start group z count acting up)) e) + unserved_cost (length acting) * length (run events (start group z count acting up)).requests ≡
    settle_count (run events (start group z count acting up)) + unserved_cost (length acting) * length (group_step (run events (start group z count acting up)) e).requests
small_each group z count acting up events e small fits fit =
    let was : Unserved group z count acting up events = small_counts group z count acting up events small fits in
    let is : Unserved group z count acting up (events ++ e ∷ []) = small_counts group z count acting up (events ++ e ∷ []) small (Each-push (IsCalm acting) events e fits fit) in
    one_more (length acting) (unserved_cost (length acting)) (start group z count acting up) events e was.sum is.sum

-- a calm group stays one

pub begins_calm : (group : GroupId) (z count : ℕ) (acting up : List ℕ) → IsCalmGroup z count acting up (start group z count acting up)
begins_calm group z count acting up = record { group = group; events = []; calm = tt; is = refl }

pub steps_calm : (z count : ℕ) (acting up : List ℕ) (g : Group) (e : Event) → IsCalmGroup z count acting up g → IsCalm acting e → IsCalmGroup z count acting up (group_step g e)
steps_calm z count acting up g e calm fit = record {
  group = calm.group;
  events = calm.events ++ e ∷ [];
  calm = Each-push (IsCalm acting) calm.events e calm.calm fit;
  is = run-append calm.events (e ∷ []) (start calm.group z count acting up) ∙ ap (λ v. group_step v e) calm.is;
}

only_delivers : (acting : List ℕ) (n : ℕ) → OnlyCalm acting (replicate n (Deliver 0))
only_delivers acting zero = tt
only_delivers acting (suc n) = (refl, only_delivers acting n)

pub settles_calm : (z count : ℕ) (acting up : List ℕ) (g : Group) → IsCalmGroup z count acting up g → IsCalmGroup z count acting up (settled_group g)
settles_calm z count acting up g calm = record {
  group = calm.group;
  events = calm.events ++ replicate (budget (run calm.events (start calm.group z count acting up))) (Deliver 0);
  calm = Each-append (IsCalm acting) calm.events (replicate (budget (run calm.events (start calm.group z count acting up))) (Deliver 0)) calm.calm (only_delivers acting (budget (run calm.events (start calm.group z count acting up))));
  is = sym (settle_is_run (budget (run calm.events (start calm.group z count acting up))) calm.events (start calm.group z count acting up)) ∙ ap settled_group calm.is;
}
