-- Each request that a group holds was submitted by one of its events.
use Rattle.std.proofs.Common.{ℕ, ◌≡◌, List, [], ◌∷◌, ◌++◌, refl, sym, ◌∙◌, append_assoc, replicate, zero, suc}
use Rattle.store_core.specs.declared.sealed.GroupId.{GroupId}
use Rattle.group_model_whole.specs.Each.{Each}
use Rattle.group_model_whole.specs.Asked.{HasSubmit}
use Rattle.group_model_whole.specs.Group.{Group, Event, Submit, Deliver, Lose, Repeat, NewInterval, Restart, Kick, group_step, run, start, settle}
use Rattle.group_model_whole.proofs.Clients.{Takes, run_holds}
use Rattle.group_model_whole.proofs.Eaches.{Each-push}
use Rattle.group_model_whole.proofs.Groups.{run-append}

each_submits : (all before es : List Event) → before ++ es ≡ all → Each (Takes (λ requests answers. Each (HasSubmit all) requests) (λ requests answers a each. each)) es
each_submits all before [] whole = tt
each_submits all before (e ∷ es) whole = (one e whole, each_submits all (before ++ e ∷ []) es (append_assoc before (e ∷ []) es ∙ whole))
  where
    one : (v : Event) → before ++ v ∷ es ≡ all → Takes (λ requests answers. Each (HasSubmit all) requests) (λ requests answers a each. each) v
    one (Submit s) is = λ requests answers each. Each-push (HasSubmit all) requests s each (record { before = before; after = es; whole = is })
    one (Deliver k) is = tt
    one (Lose k) is = tt
    one (Repeat k) is = tt
    one (NewInterval acting up) is = tt
    one (Restart d) is = tt
    one Kick is = tt

pub all_submitted : (group : GroupId) (z count : ℕ) (acting up : List ℕ) (es : List Event) → Each (HasSubmit es) (run es (start group z count acting up)).requests
all_submitted group z count acting up es =
    run_holds (λ requests answers. Each (HasSubmit es) requests) (λ requests answers a each. each) es (start group z count acting up) (each_submits es [] es refl) tt

-- settling is a run
settle_run : (n : ℕ) (g : Group) → settle n g ≡ run (replicate n (Deliver 0)) g
settle_run zero g = refl
settle_run (suc n) g = settle_run n (group_step g (Deliver 0))

pub settle_is_run : (n : ℕ) (es : List Event) (g : Group) → settle n (run es g) ≡ run (es ++ replicate n (Deliver 0)) g
settle_is_run n es g = settle_run n (run es g) ∙ sym (run-append es (replicate n (Deliver 0)) g)
