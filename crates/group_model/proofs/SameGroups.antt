-- What no event changes, and the requests after each.
use Rattle.std.proofs.Common.{ℕ, zero, suc, ◌≡◌, Bool, true, false, not, nat_lt, List, [], ◌∷◌, ◌++◌, length, refl, sym, ◌∙◌, ap, if◌then◌else◌}
use Rattle.std.specs.Prelude.{None}
use Rattle.store_core.specs.Request.{Sealed}
use Rattle.store_core.specs.declared.sealed.GroupId.{GroupId}
use Rattle.group_model_whole.specs.Calm.{taken, all_taken}
use Rattle.group_model.specs.Group.{Group, Event, Submit, Deliver, Lose, Repeat, NewInterval, Restart, Kick, is_submitted, take_request, group_step, refusal_of, run, settle}
use Rattle.group_model.specs.Laws.{IsSameGroup}
use Rattle.group_model.proofs.Shown.{Shown, Lasts, Takes, step_holds}
use Rattle.group_model.proofs.Refusals.{opens_is}

-- the placement group and how many members it wants

module _ (group : GroupId) (z : ℕ) where
  abbrev Named : Shown → Type 0
  Named v = (v.group ≡ group) × (v.min_size ≡ z)

  named_lasts : Lasts Named
  named_lasts = record { hears = λ v a is. is; decides = λ v more is. is }

  named_any : (e : Event) → Takes Named named_lasts e
  named_any (Submit s) = λ v is. is
  named_any (Deliver k) = tt
  named_any (Lose k) = tt
  named_any (Repeat k) = tt
  named_any (NewInterval acting up) = tt
  named_any (Restart d) = tt
  named_any Kick = tt

named : (g : Group) (e : Event) → ((group_step g e).group ≡ g.group) × ((group_step g e).min_size ≡ g.min_size)
named g e = step_holds (Named g.group g.min_size) (named_lasts g.group g.min_size) e g (named_any g.group g.min_size e) (refl, refl)

-- the requests

abbrev Keeps : List Sealed → Shown → Type 0
Keeps requests v = v.requests ≡ requests

keeps_lasts : (requests : List Sealed) → Lasts (Keeps requests)
keeps_lasts requests = record { hears = λ v a is. is; decides = λ v more is. is }

stay : (e : Event) (g : Group) → Takes (Keeps g.requests) (keeps_lasts g.requests) e → (group_step g e).requests ≡ g.requests
stay e g none = step_holds (Keeps g.requests) (keeps_lasts g.requests) e g none refl

pub step_takes : (e : Event) (g : Group) → (group_step g e).requests ≡ taken g.requests e
step_takes (Submit s) g = go (is_submitted g.requests s.id) (nat_lt (length g.requests) 16384)
  where
    go : (a b : Bool) → (if a then g else (if not b then g else take_request g s)).requests ≡ (if a then g.requests else (if b then g.requests ++ s ∷ [] else g.requests))
    go true b = refl
    go false true = refl
    go false false = refl
step_takes (Deliver k) g = stay (Deliver k) g tt
step_takes (Lose k) g = stay (Lose k) g tt
step_takes (Repeat k) g = stay (Repeat k) g tt
step_takes (NewInterval set up) g = stay (NewInterval set up) g tt
step_takes (Restart d) g = stay (Restart d) g tt
step_takes Kick g = refl

pub run_takes : (es : List Event) (g : Group) → (run es g).requests ≡ all_taken es g.requests
run_takes [] g = refl
run_takes (e ∷ es) g = run_takes es (group_step g e) ∙ ap (all_taken es) (step_takes e g)

pub same_step : (g : Group) (e : Event) → IsSameGroup g (taken g.requests e) (group_step g e)
same_step g e = (let n = named g e in record { group = n.0; min_size = n.1; requests = step_takes e g })

pub same_run : (g : Group) (events : List Event) → IsSameGroup g (all_taken events g.requests) (run events g)
same_run g [] = record { group = refl; min_size = refl; requests = refl }
same_run g (e ∷ es) =
    let first = same_step g e in
    let rest = same_run (group_step g e) es in
    record { group = rest.group ∙ first.group; min_size = rest.min_size ∙ first.min_size; requests = run_takes (e ∷ es) g }

pub same_settle : (g : Group) (n : ℕ) → IsSameGroup g g.requests (settle n g)
same_settle g zero = record { group = refl; min_size = refl; requests = refl }
same_settle g (suc n) =
    let first = same_step g (Deliver 0) in
    let rest = same_settle (group_step g (Deliver 0)) n in
    record { group = rest.group ∙ first.group; min_size = rest.min_size ∙ first.min_size; requests = rest.requests ∙ first.requests }

pub takes_last : (g : Group) (s : Sealed) → refusal_of g (Submit s) ≡ None → taken g.requests (Submit s) ≡ g.requests ++ s ∷ []
takes_last g s free = sym (step_takes (Submit s) g) ∙ ap (λ (v : Group). v.requests) (opens_is g s free)
