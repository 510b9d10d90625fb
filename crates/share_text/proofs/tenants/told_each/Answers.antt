use Rattle.std.proofs.Common.{◌+◌, option_copied, string_bytes, arith}
use Rattle.share_text.specs.Tenants.{IsToldWith}
use Rattle.share_text.proofs.Telling.{all_told, one_told}
use Rattle.share_text.proofs.tenants.told_each.Goals as goal

pub loop-place-preserved : goal.loop-place-preserved
loop-place-preserved c =
    one_told (IsToldWith c.args.detail (option_copied c.args.pools) c.args.strictness) c.args.tenants.now c.loop-place.place c.index-tenants-place.result _ _ _ _ _ _ (omega arith) c.index-tenants-place.is
    c.in_ok-told.ensures c.in_ok-push_told.ensures.text c.in_ok-push_told.ensures.fails c.loop-place.invariant

pub returns : goal.returns
returns c = all_told (IsToldWith c.args.detail (option_copied c.args.pools) c.args.strictness) c.args.tenants.now c.loop-place.place _ _ c.loop-place-test.false c.loop-place.invariant
