-- What no event changes, and the requests after each.
use Rattle.std.proofs.Common.{ℕ, zero, suc, ◌≡◌, List, [], ◌∷◌, ◌++◌, refl, sym, ◌∙◌, ap}
use Rattle.std.specs.Prelude.{None}
use Rattle.store_core.specs.Request.{Sealed}
use Rattle.group_model_whole.specs.Group.{Group, Event, Submit, Deliver, group_step, refusal_of, run, settle}
use Rattle.group_model_whole.specs.Calm.{taken, all_taken}
use Rattle.group_model_whole.specs.Laws.{IsSameGroup}
use Rattle.group_model_whole.proofs.Reached.{step_named, run_named}
use Rattle.group_model_whole.proofs.Takings.{step_takes, run_takes}
use Rattle.group_model_whole.proofs.Calls.{opens_is}

pub same_step : (g : Group) (e : Event) → IsSameGroup g (taken g.requests e) (group_step g e)
same_step g e =
    let named : ((group_step g e).group ≡ g.group) × ((group_step g e).min_size ≡ g.min_size) = step_named (λ group z. (group ≡ g.group) × (z ≡ g.min_size)) e g (refl, refl) in
    record { group = named.0; min_size = named.1; requests = step_takes e g }

pub same_run : (g : Group) (events : List Event) → IsSameGroup g (all_taken events g.requests) (run events g)
same_run g events =
    let named : ((run events g).group ≡ g.group) × ((run events g).min_size ≡ g.min_size) = run_named (λ group z. (group ≡ g.group) × (z ≡ g.min_size)) events g (refl, refl) in
    record { group = named.0; min_size = named.1; requests = run_takes events g }

pub same_settle : (g : Group) (n : ℕ) → IsSameGroup g g.requests (settle n g)
same_settle g zero = record { group = refl; min_size = refl; requests = refl }
same_settle g (suc n) =
    let first = same_step g (Deliver 0) in
    let rest = same_settle (group_step g (Deliver 0)) n in
    record { group = rest.group ∙ first.group; min_size = rest.min_size ∙ first.min_size; requests = rest.requests ∙ first.requests }

pub takes_last : (g : Group) (s : Sealed) → refusal_of g (Submit s) ≡ None → taken g.requests (Submit s) ≡ g.requests ++ s ∷ []
takes_last g s free = sym (step_takes (Submit s) g) ∙ ap (λ (v : Group). v.requests) (opens_is g s free)
