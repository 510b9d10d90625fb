-- Events make as many deliveries in a group as in the one for which it stands.
use Rattle.std.proofs.Common.{◌≡◌, ◌+◌, List, [], ◌∷◌, refl}
use Rattle.std.specs.Prelude.{Option, Some, None, slice_get}
use Rattle.group_model_whole.specs.Types.{Sent as WholeSent}
use Rattle.group_model_whole.specs.Group.{Group as WholeGroup, group_step as whole_group_step}
use Rattle.group_model_whole.specs.Quiet.{found_one as whole_found_one, made_by as whole_made_by, deliveries_made as whole_deliveries_made}
use Rattle.group_model.specs.Standing.{SameSent, StandsFor}
use Rattle.group_model.specs.Types.{Sent}
use Rattle.group_model.specs.Group.{Group, Event, Submit, Deliver, Lose, Repeat, NewInterval, Restart, Kick, group_step}
use Rattle.group_model.proofs.Lists.{IfBoth, Both-get}
use Rattle.group_model.proofs.Events.{Lock, step_locked}
use Rattle.group_model.proofs.Twins.{lock_stands}
use Rattle.group_model.specs.Quiet.{found_one, made_by, deliveries_made}

found_same : (found : Option Sent) (found' : Option WholeSent) → IfBoth SameSent found found' → whole_found_one found' ≡ found_one found
found_same None None says = refl
found_same None (Some m') says = absurd says
found_same (Some m) None says = absurd says
found_same (Some m) (Some m') says = refl

pub made_same : (g : Group) (w : WholeGroup) (e : Event) → StandsFor g w → whole_made_by w e ≡ made_by g e
made_same g w (Deliver k) s = found_same (slice_get g.wire k) (slice_get w.wire k) (Both-get SameSent g.wire w.wire k s.wire)
made_same g w (Submit r) s = refl
made_same g w (Lose k) s = refl
made_same g w (Repeat k) s = refl
made_same g w (NewInterval acting up) s = refl
made_same g w (Restart d) s = refl
made_same g w Kick s = refl

pub all_made_same : (es : List Event) (g : Group) (w : WholeGroup) → Lock g w → whole_deliveries_made es w ≡ deliveries_made es g
all_made_same [] g w l = refl
all_made_same (e ∷ es) g w l =
    let first = made_same g w e (lock_stands g w l) in
    let rest = all_made_same es (group_step g e) (whole_group_step w e) (step_locked g w e l) in
    (λ i. first i + rest i)
