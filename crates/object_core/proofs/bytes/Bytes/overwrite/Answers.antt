use Rattle.std.proofs.Common.{◌≡◌, ◌+◌, ◌-◌, ◌++◌, length, take, drop, replicate, max, ap, ◌∙◌, arith}
use Rattle.object_core.specs.Bytes.{resized}
use Rattle.object_core.proofs.Overwrites.{overwritten_in}
use Rattle.object_core.proofs.bytes.Bytes.overwrite.Goals as goal

pub returns : goal.returns
returns c =
    let old = c.args.self.now in
    let new = c.resize.new.self in
    let end = c.max-size.result in
    let long : c.self.inside.bytes.len ≡ length old = omega (arith, ap length c.self.view_is, c.self.inside.bytes.ok.0) in
    let size : end ≡ max (length old) (c.args.offset + length c.args.more.now) = omega (arith, long) in
    let items : new.items ≡ resized end old = c.in_ok-resize.ensures.items ∙ (λ k. take end (c.self.view_is k) ++ replicate (end - long k) 0) in
    let n : new.len ≡ length new.items = new.ok.0 in
    let part = c.deref_mut.ensures.value in
    let more = c.as_slice.ensures in
    let laid : c.lay.new.bytes ≡ take c.args.offset new.items ++ c.args.more.now ++ drop (c.args.offset + length c.args.more.now) new.items
    = c.lay.ensures ∙ (λ k. take c.args.offset (part k) ++ more k ++ drop (c.args.offset + length (more k)) (part k)) in
    overwritten_in old new.items c.lay.new.bytes c.args.more.now c.args.offset end new.len size items n laid
