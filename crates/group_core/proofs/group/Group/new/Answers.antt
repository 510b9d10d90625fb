use Rattle.place_core.specs.Placement.{numbers_of}
use Rattle.group_model_whole.proofs.Sets.{set_is}
use Rattle.group_core.proofs.Calls.{begun_is, whole_start}
use Rattle.group_core.proofs.group.Group.new.Goals as goal

pub invariant_of-result : goal.invariant_of-result
invariant_of-result c = whole_start c.args.group c.args.min_size c.args.daemons c.args.acting (numbers_of c.args.up) _ c.requires (set_is c.args.acting (rw (← c.as_slice-members.ensures.value) c.as_slice-members.ensures.few) (rw (← c.as_slice-members.ensures.value) c.as_slice-members.ensures.once))
    (begun_is c.args.group c.args.min_size c.args.daemons c.args.acting (numbers_of c.args.up) c.in_ok-copies.copies.items c.new-wire.result.sent c.begin.new.wire.sent c.new-sets.result c.begin.new.sets c.new-ledger.result.requests c.new-ledger.result.answers
    c.in_ok-copies.ensures c.new-wire.ensures c.new-sets.ensures c.new-ledger.ensures.requests c.new-ledger.ensures.answers c.in_ok-begin.ensures.sets_ok c.in_ok-begin.ensures.wire_ok)
