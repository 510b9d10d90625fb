use Rattle.std.proofs.Common.{◌≡◌, ◌+◌, ◌<◌, ◌≤◌, ◌∷◌, ◌++◌, [], List, length, take, get_or, sym, ap, subst, ◌∙◌}
use Rattle.std.proofs.lemmas.List.{take_all, take_more}
use Rattle.request_types.specs.declared.request.ClassCall.{ClassCall}
use Rattle.suggest_core.specs.Parts.{HasSome}
use Rattle.suggest_core.proofs.Steps.{calls_next}
use Rattle.suggest_core.proofs.suggesting.add_methods.Goals as goal

pub loop-call-preserved : goal.loop-call-preserved
loop-call-preserved c =
    let calls : List ClassCall = c.args.request.now.needs.calls in
    let list : c.as_slice-call-items.result.now ≡ calls = c.as_slice-call-items.ensures in
    let within : c.loop-call.call-index < length calls = subst (λ (l : List ClassCall). c.loop-call.call-index < length l) list c.loop-call-test.true in
    let item : c.call-item.result ≡ get_or calls c.loop-call.call-index c.call-item.result = c.call-item.is ∙ ap (λ (l : List ClassCall). get_or l c.loop-call.call-index c.call-item.result) list in
    let next : take (c.loop-call.call-index + 1) calls ≡ take c.loop-call.call-index calls ++ c.call-item.result ∷ [] =
    take_more calls c.loop-call.call-index c.call-item.result within ∙ ap (λ (x : ClassCall). take c.loop-call.call-index calls ++ x ∷ []) (sym item) in
    λ far has. subst (λ (l : List ClassCall). HasSome c.args.grain.now c.args.seen.now far c.args.request.now l c.add_method.new.grants.items) (sym next)
    (c.in_ok-add_method.ensures far (take c.loop-call.call-index calls) (c.loop-call.invariant far has))

pub returns : goal.returns
returns c =
    let calls : List ClassCall = c.args.request.now.needs.calls in
    let past : length calls ≤ c.loop-call.call-index = subst (λ (l : List ClassCall). length l ≤ c.loop-call.call-index) c.as_slice-call-items.ensures c.loop-call-test.false in
    λ far has. calls_next c.args.grain.now c.args.seen.now far c.loop-call.grants.items c.args.request.now
    (subst (λ (l : List ClassCall). HasSome c.args.grain.now c.args.seen.now far c.args.request.now l c.loop-call.grants.items) (take_all c.loop-call.call-index calls past) (c.loop-call.invariant far has))
