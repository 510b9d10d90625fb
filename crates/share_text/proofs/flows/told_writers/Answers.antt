use Rattle.std.proofs.Common.{◌≡◌, subst, arith, length, map, string_bytes}
use Rattle.share_text.specs.FlowLines.{AreChainsTold, IsWriterTold}
use Rattle.share_text.specs.Flows.{OfEach}
use Rattle.share_text.proofs.Reaching.{one_place_more}
use Rattle.share_text.proofs.flows.told_writers.Goals as goal

pub loop-writer-preserved : goal.loop-writer-preserved
loop-writer-preserved c =
    let steps = map (λ readers. readers.items) c.args.steps.now in
    one_place_more (IsWriterTold c.args.detail c.args.check c.args.tenants.now steps) c.loop-writer.writer _ _ _ _ _ _ (
      c.in_ok-chains.chains.items,
      c.in_ok-chains.ensures,
      subst (λ chains. AreChainsTold c.args.detail c.args.check c.args.tenants.now c.loop-writer.writer chains (string_bytes c.in_ok-told.told.text) c.in_ok-told.told.fails)
          c.as_slice.ensures.value c.in_ok-told.ensures,
    )
    c.in_ok-push_told.ensures.text c.in_ok-push_told.ensures.fails c.loop-writer.invariant

pub returns : goal.returns
returns c =
    let steps = map (λ readers. readers.items) c.args.steps.now in
    let all : c.loop-writer.writer ≡ length c.args.steps.now = omega arith in
    subst (λ n. OfEach (IsWriterTold c.args.detail c.args.check c.args.tenants.now steps) n (string_bytes c.loop-writer.printed.text) c.loop-writer.printed.fails) all c.loop-writer.invariant
