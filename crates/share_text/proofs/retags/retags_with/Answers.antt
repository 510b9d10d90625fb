use Rattle.std.proofs.Common.{drop, option_copied}
use Rattle.share_text.specs.Retags.{IsRetagTold, untagged}
use Rattle.share_text.specs.Untagged.{plain_of}
use Rattle.share_text.proofs.NearTold.{first_near, last_near, next_near}
use Rattle.share_text.proofs.Untagged.{apart_retags, length_plain}
use Rattle.share_text.proofs.retags.retags_with.Goals as goal

pub loop-place-init : goal.loop-place-init
loop-place-init c =
    first_near (IsRetagTold (option_copied c.args.pools) c.args.format c.args.one.now) (untagged c.args.one.now.ticket.now.grants) (plain_of c.args.tenants.now) c.args.tenants.now c.args.from
    c.args.near.now _ _ c.nothing-printed.ensures.text c.nothing-printed.ensures.fails c.requires

pub loop-place-preserved : goal.loop-place-preserved
loop-place-preserved c =
    next_near (IsRetagTold (option_copied c.args.pools) c.args.format c.args.one.now) (untagged c.args.one.now.ticket.now.grants) (plain_of c.args.tenants.now) (drop c.args.from c.args.tenants.now)
    c.args.tenants.now c.args.near.now c.loop-place.place-index c.index-tenants-place.result _ _ _ _ _ _ (length_plain c.args.tenants.now)
    (apart_retags (option_copied c.args.pools) c.args.format c.args.one.now c.args.tenants.now) c.loop-place-test.true c.index-tenants-place.is c.in_ok-told.ensures
    c.in_ok-push_told.ensures.text c.in_ok-push_told.ensures.fails c.loop-place.invariant

pub returns : goal.returns
returns c =
    last_near (IsRetagTold (option_copied c.args.pools) c.args.format c.args.one.now) (untagged c.args.one.now.ticket.now.grants) (plain_of c.args.tenants.now) (drop c.args.from c.args.tenants.now)
    c.args.tenants.now c.args.near.now c.loop-place.place-index _ _ (length_plain c.args.tenants.now) (apart_retags (option_copied c.args.pools) c.args.format c.args.one.now c.args.tenants.now)
    c.loop-place-test.false c.loop-place.invariant
