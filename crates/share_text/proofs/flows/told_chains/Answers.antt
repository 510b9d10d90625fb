use Rattle.std.proofs.Common.{◌≡◌, subst, arith, length, refl, string_bytes}
use Rattle.std.proofs.lemmas.Option.{slice_get_read}
use Rattle.share_text.specs.FlowLines.{IsChainTold, IsFoundTold}
use Rattle.share_text.specs.Flows.{OfEach}
use Rattle.share_text.proofs.Reaching.{one_place_more}
use Rattle.share_text.proofs.flows.told_chains.Goals as goal

pub loop-found-preserved : goal.loop-found-preserved
loop-found-preserved c =
    one_place_more (IsFoundTold c.args.detail c.args.check c.args.tenants.now c.args.writer c.args.chains.now) c.loop-found.found-index _ _ _ _ _ _ (
      c.found-item.result,
      slice_get_read c.args.chains.now (length c.args.chains.now) c.loop-found.found-index c.found-item.result refl (omega arith) c.found-item.is,
      subst (λ chain. IsChainTold c.args.detail c.args.check c.args.tenants.now c.args.writer c.found-item.result.end chain (string_bytes c.in_ok-told.told.text) c.in_ok-told.told.fails)
          c.as_slice-chain.ensures.value c.in_ok-told.ensures,
    )
    c.in_ok-push_told.ensures.text c.in_ok-push_told.ensures.fails c.loop-found.invariant

pub returns : goal.returns
returns c =
    let all : c.loop-found.found-index ≡ length c.args.chains.now = omega arith in
    subst (λ n. OfEach (IsFoundTold c.args.detail c.args.check c.args.tenants.now c.args.writer c.args.chains.now) n (string_bytes c.loop-found.printed.text) c.loop-found.printed.fails)
    all c.loop-found.invariant
