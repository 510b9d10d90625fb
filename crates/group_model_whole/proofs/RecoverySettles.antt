-- Recovery by kick.
use Rattle.std.proofs.Common.{ℕ, zero, suc, ◌≡◌, true, List, [], ◌∷◌, length, refl, sym, ap, subst}
use Rattle.std.specs.Prelude.{slice_get}
use Rattle.group_model_whole.specs.ActingSets.{is_primary}
use Rattle.group_model_whole.specs.Types.{Sent}
use Rattle.group_model_whole.specs.Group.{Group, Deliver, last_set, deliver, group_step, kick, settle}
use Rattle.group_model_whole.proofs.RecoveryStates.{CanOpen, IsPrompt, AllAnswered, HasCopy}
use Rattle.group_model_whole.proofs.Groups.{Good, step_good, kick_good}
use Rattle.group_model_whole.proofs.RecoveryEnds.{all_answered}
use Rattle.group_model_whole.proofs.RecoveryDeliveries.{Next, deliver_next, first_in}
use Rattle.group_model_whole.proofs.RecoveryKicks.{kick_next}
use Rattle.group_model_whole.proofs.RecoveryReady.{AllFit, Ready, deliver_ready, same_can}
use Rattle.group_model_whole.proofs.RecoveryFitGroups.{kick_fits}

delivered : (g : Group) (p : ℕ) → Good g → CanOpen g → Next g p → (w : List Sent) → g.wire ≡ w → Next (group_step g (Deliver 0)) p
delivered g p good can next [] is = subst (λ v. Next (deliver g 0 v) p) (sym (ap (λ v. slice_get v 0) is)) next
delivered g p good can next (m ∷ rest) is = deliver_next g good can p next.copy next.on m rest is

pub settle_answers : (n : ℕ) (g : Group) (p : ℕ) → Good g → Ready g → Next g p → (settle n g).wire ≡ [] → AllAnswered (settle n g)
settle_answers zero g p good ready next empty = all_answered g good ready.can p next.copy next.on empty
settle_answers (suc n) g p good ready next empty =
    settle_answers n (group_step g (Deliver 0)) p (step_good (Deliver 0) g good) (deliver_ready g 0 (slice_get g.wire 0) refl good ready) (delivered g p good ready.can next g.wire refl) empty

-- where every message was lost: a kick, then message 0 until none is left
pub recovers : (n : ℕ) (g : Group) (p : ℕ) → Good g → AllFit g → IsPrompt g → g.wire ≡ [] → is_primary (last_set g.sets) p ≡ true →
    CanOpen g → (settle (suc n) (kick g)).wire ≡ [] → AllAnswered (settle (suc n) (kick g))
recovers n g p good fits prompt lost first can empty =
    let has : HasCopy g p = can.daemons_exist (length g.sets) p (first_in (last_set g.sets) p first) in
    let ready : Ready (kick g) = record { fits = kick_fits g good fits; can = same_can g (kick g).wire g.answers can } in
    settle_answers n (group_step (kick g) (Deliver 0)) p (step_good (Deliver 0) (kick g) (kick_good g good)) (deliver_ready (kick g) 0 (slice_get (kick g).wire 0) refl (kick_good g good) ready)
    (kick_next g good can prompt p has.copy first has.here lost) empty
