use Rattle.std.proofs.Common.{◌≡◌, ◌+◌, ◌∷◌, ◌++◌, [], List, take, sym, ap, subst, ◌∙◌}
use Rattle.std.proofs.lemmas.List.{take_all, take_more}
use Rattle.suggest_core.specs.declared.seen.Seen.{Seen}
use Rattle.suggest_core.specs.Parts.{HasCalls, HasMoving}
use Rattle.suggest_core.proofs.Steps.{calls_none}
use Rattle.suggest_core.proofs.suggesting.all_grants.Goals as goal

pub loop-request-preserved : goal.loop-request-preserved
loop-request-preserved c =
    let next : take (c.loop-request.request-index + 1) c.args.seen.now ≡ take c.loop-request.request-index c.args.seen.now ++ c.request-item.result ∷ [] =
    take_more c.args.seen.now c.loop-request.request-index c.request-item.result c.loop-request-test.true
    ∙ ap (λ (x : Seen). take c.loop-request.request-index c.args.seen.now ++ x ∷ []) (sym c.request-item.is) in
    subst (λ (far : List Seen). HasMoving c.args.grain.now c.args.seen.now far c.add_flags.new.grants.items) (sym next)
    (c.in_ok-add_flags.ensures (take c.loop-request.request-index c.args.seen.now) c.loop-request.invariant)

pub loop-request-2-init : goal.loop-request-2-init
loop-request-2-init c =
    calls_none c.args.grain.now c.args.seen.now c.loop-request.grants.items
    (subst (λ (far : List Seen). HasMoving c.args.grain.now c.args.seen.now far c.loop-request.grants.items) (take_all c.loop-request.request-index c.args.seen.now c.loop-request-test.false) c.loop-request.invariant)

pub loop-request-2-preserved : goal.loop-request-2-preserved
loop-request-2-preserved c =
    let next : take (c.loop-request-2.request-index + 1) c.args.seen.now ≡ take c.loop-request-2.request-index c.args.seen.now ++ c.request-item-in-loop-request-2.result ∷ [] =
    take_more c.args.seen.now c.loop-request-2.request-index c.request-item-in-loop-request-2.result c.loop-request-2-test.true
    ∙ ap (λ (x : Seen). take c.loop-request-2.request-index c.args.seen.now ++ x ∷ []) (sym c.request-item-in-loop-request-2.is) in
    subst (λ (far : List Seen). HasCalls c.args.grain.now c.args.seen.now far c.add_methods.new.grants.items) (sym next)
    (c.in_ok-add_methods.ensures (take c.loop-request-2.request-index c.args.seen.now) c.loop-request-2.invariant)
