use Rattle.std.proofs.Common.{drop, option_copied}
use Rattle.share_text.specs.Behind.{grants_of}
use Rattle.share_text.specs.Writers.{IsWritersTold}
use Rattle.share_text.proofs.NearTold.{apart_writers, first_near, last_near, length_grants, next_near}
use Rattle.share_text.proofs.writers.writers_with.Goals as goal

pub loop-place-init : goal.loop-place-init
loop-place-init c =
    first_near (IsWritersTold (option_copied c.args.pools) c.args.strictness c.args.one.now) c.args.one.now.ticket.now.grants (grants_of c.args.tenants.now) c.args.tenants.now c.args.from c.args.near.now _ _
    c.nothing-printed.ensures.text c.nothing-printed.ensures.fails c.requires

pub loop-place-preserved : goal.loop-place-preserved
loop-place-preserved c =
    next_near (IsWritersTold (option_copied c.args.pools) c.args.strictness c.args.one.now) c.args.one.now.ticket.now.grants (grants_of c.args.tenants.now) (drop c.args.from c.args.tenants.now)
    c.args.tenants.now c.args.near.now c.loop-place.place-index c.index-tenants-place.result _ _ _ _ _ _ (length_grants c.args.tenants.now)
    (apart_writers (option_copied c.args.pools) c.args.strictness c.args.one.now c.args.tenants.now) c.loop-place-test.true c.index-tenants-place.is c.in_ok-told.ensures
    c.in_ok-push_told.ensures.text c.in_ok-push_told.ensures.fails c.loop-place.invariant

pub returns : goal.returns
returns c =
    last_near (IsWritersTold (option_copied c.args.pools) c.args.strictness c.args.one.now) c.args.one.now.ticket.now.grants (grants_of c.args.tenants.now) (drop c.args.from c.args.tenants.now)
    c.args.tenants.now c.args.near.now c.loop-place.place-index _ _ (length_grants c.args.tenants.now) (apart_writers (option_copied c.args.pools) c.args.strictness c.args.one.now c.args.tenants.now)
    c.loop-place-test.false c.loop-place.invariant
