-- A calm group stays one.
use Rattle.std.proofs.Common.{ℕ, zero, suc, List, [], ◌∷◌, ◌++◌, replicate, refl, sym, ◌∙◌, ap}
use Rattle.store_core.specs.declared.sealed.GroupId.{GroupId}
use Rattle.group_model_whole.proofs.Eaches.{Each-append, Each-push}
use Rattle.group_model_whole.specs.Calm.{IsCalm, OnlyCalm}
use Rattle.group_model.specs.Group.{Group, Event, Deliver, group_step, run, start}
use Rattle.group_model.specs.Budget.{budget, settled_group}
use Rattle.group_model.specs.Calm.{IsCalmGroup}
use Rattle.group_model.proofs.Runs.{run-append, settle_is_run}

pub begins_calm : (group : GroupId) (z count : ℕ) (acting up : List ℕ) → IsCalmGroup z count acting up (start group z count acting up)
begins_calm group z count acting up = record { group = group; events = []; calm = tt; is = refl }

pub steps_calm : (z count : ℕ) (acting up : List ℕ) (g : Group) (e : Event) → IsCalmGroup z count acting up g → IsCalm acting e → IsCalmGroup z count acting up (group_step g e)
steps_calm z count acting up g e calm fits = record {
  group = calm.group;
  events = calm.events ++ e ∷ [];
  calm = Each-push (IsCalm acting) calm.events e calm.calm fits;
  is = run-append calm.events (e ∷ []) (start calm.group z count acting up) ∙ ap (λ v. group_step v e) calm.is;
}

only_delivers : (acting : List ℕ) (n : ℕ) → OnlyCalm acting (replicate n (Deliver 0))
only_delivers acting zero = tt
only_delivers acting (suc n) = (refl, only_delivers acting n)

pub settles_calm : (z count : ℕ) (acting up : List ℕ) (g : Group) → IsCalmGroup z count acting up g → IsCalmGroup z count acting up (settled_group g)
settles_calm z count acting up g calm =
    let n : ℕ = budget (run calm.events (start calm.group z count acting up)) in
    record {
      group = calm.group;
      events = calm.events ++ replicate n (Deliver 0);
      calm = Each-append (IsCalm acting) calm.events (replicate n (Deliver 0)) calm.calm (only_delivers acting n);
      is = sym (settle_is_run n calm.events (start calm.group z count acting up)) ∙ ap settled_group calm.is;
    }
