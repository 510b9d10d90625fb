-- The requests of a group are those that were submitted, whatever else happened.
use Rattle.std.proofs.Common.{◌≡◌, Bool, true, false, not, nat_lt, List, [], ◌∷◌, ◌++◌, length, refl, ◌∙◌, ap, if◌then◌else◌}
use Rattle.group_model_whole.specs.Group.{Group, Event, Submit, Deliver, Lose, Repeat, NewInterval, Restart, Kick, is_submitted, take_request, group_step, run}
use Rattle.group_model_whole.specs.Calm.{taken, all_taken}
use Rattle.group_model_whole.proofs.Clients.{Takes, step_holds}

stay : (e : Event) (g : Group) → Takes (λ requests answers. requests ≡ g.requests) (λ requests answers a is. is) e → (group_step g e).requests ≡ g.requests
stay e g none = step_holds (λ requests answers. requests ≡ g.requests) (λ requests answers a is. is) e g none refl

pub step_takes : (e : Event) (g : Group) → (group_step g e).requests ≡ taken g.requests e
step_takes (Submit s) g = go (is_submitted g.requests s.id) (nat_lt (length g.requests) 16384)
  where
    go : (a b : Bool) → (if a then g else (if not b then g else take_request g s)).requests ≡ (if a then g.requests else (if b then g.requests ++ s ∷ [] else g.requests))
    go true b = refl
    go false true = refl
    go false false = refl
step_takes (Deliver k) g = stay (Deliver k) g tt
step_takes (Lose k) g = stay (Lose k) g tt
step_takes (Repeat k) g = stay (Repeat k) g tt
step_takes (NewInterval set up) g = stay (NewInterval set up) g tt
step_takes (Restart d) g = stay (Restart d) g tt
step_takes Kick g = refl

pub run_takes : (es : List Event) (g : Group) → (run es g).requests ≡ all_taken es g.requests
run_takes [] g = refl
run_takes (e ∷ es) g = run_takes es (group_step g e) ∙ ap (all_taken es) (step_takes e g)
