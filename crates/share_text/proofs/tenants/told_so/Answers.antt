use Rattle.std.proofs.Common.{◌≡◌, Some, slice_get}
use Rattle.compare_core.proofs.Asked.{all_slice_get}
use Rattle.verdict_text.proofs.Results.{ok_also}
use Rattle.share_core.specs.declared.reaching.Shared.{Shared}
use Rattle.share_text.specs.Kinds.{IsSharedSo}
use Rattle.share_text.proofs.tenants.told_so.Goals as goal

pub returns : goal.returns
returns c =
    let value = c.in-Some.ensures.value in
    let items = c.deref.ensures.value in
    let first : slice_get c.in_ok-examples.examples.items 0 ≡ Some c.in-Some.shared.now = (cc) in
    ok_also c.told_at.result
    (λ printed h. (
      c.in-Some.shared.now.target,
      all_slice_get (λ (example : Shared). IsSharedSo c.args.kind c.args.one.now.ticket.now.grants c.args.other.now.ticket.now.grants example.target)
          c.in_ok-examples.examples.items 0 c.in-Some.shared.now c.in_ok-examples.ensures.shared first,
      h.0,
      h.1,
    ))
    c.told_at.ensures
