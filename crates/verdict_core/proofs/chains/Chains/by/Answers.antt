use Rattle.cap_grants.specs.declared.grant.AllowGrant.{AllowGrant}
use Rattle.std.proofs.Common.{ℕ, List, ap, ◌≡◌, sym, subst, ◌∙◌, ◌-◌, get_or, length, Some, slice_set, arith}
use Rattle.std.specs.List.{slice_get}
use Rattle.std.proofs.lemmas.List.{get_or_read}
use Rattle.verdict_core.specs.Chains.{AreChained}
use Rattle.verdict_core.specs.Kinds.{chain_of, chains_of}
use Rattle.verdict_core.proofs.ChainSteps.{chained_more}
use Rattle.verdict_core.proofs.Walks.{got, chain_at, length-chains_of}
use Rattle.std.proofs.lemmas.Grind.{common_steps}
use Rattle.verdict_core.proofs.chains.Chains.by.Goals as goal

pub loop-done-preserved : goal.loop-done-preserved
loop-done-preserved c =
    let grants = c.args.grants.now in
    let kinds = c.args.kinds.items in
    let chains = chains_of kinds grants in
    let lengths = length-chains_of kinds grants in
    let done = c.loop-done.done in
    let inside = c.loop-done-test.true in
    let place = length grants - 1 - done in
    let chain = c.chain_of-chain.result in
    let first = c.loop-done.first.items in
    let next = c.loop-done.next.items in
    let chained = c.loop-done.invariant in
    let at : slice_get grants place ≡ Some c.index-grants-place.result = got grants place c.index-grants-place.result (omega arith) c.index-grants-place.is in
    let here : chain ≡ get_or chains place 0 = c.chain_of-chain.ensures.value ∙ ap (λ ks. chain_of ks (get_or grants place c.index-grants-place.result).1) c.as_slice.ensures.value ∙ ap (λ (e : List ℕ × AllowGrant). chain_of kinds e.1) (sym c.index-grants-place.is) ∙ sym (chain_at kinds grants place c.index-grants-place.result at).1 in
    let head : c.index.result.now ≡ get_or first chain 0 = get_or_read first _ _ (omega (arith, chained.heads, c.chain_of-chain.ensures.small)) c.index.ensures 0 in
    subst (λ k. AreChained k chains (slice_set first chain place) (slice_set next place c.index.result.now)) (omega arith)
    (chained_more (length grants - done) place chains first next chain c.index.result.now (omega arith) (omega (arith, lengths)) here c.chain_of-chain.ensures.small head chained)

pub loop-done-init : goal.loop-done-init
loop-done-init c = grind (arith, common_steps)
