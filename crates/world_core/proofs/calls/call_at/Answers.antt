use Rattle.std.proofs.Common.{length, refl}
use Rattle.std.proofs.lemmas.Option.{slice_get_read}
use Rattle.world_core.proofs.Calling.{called_other, freely, no_delivery}
use Rattle.world_core.proofs.calls.call_at.Goals as goal

pub returns-in-Deliver : goal.returns-in-Deliver
returns-in-Deliver c =
    let gs = c.args.groups.now.items in
    let old = c.index_mut-group.result.now in
    rw c.in-Deliver.is (record {
      called = record {
        old = old;
        new = c.deliver.new.group;
        there = slice_get_read gs (length gs) c.args.place old refl c.requires c.index_mut-group.ensures.value;
        steps = c.deliver.ensures.steps;
        groups_are = refl;
        runs_are = c.deliver.ensures.kept;
      };
      lost = tt;
    })

pub returns-in-Lose : goal.returns-in-Lose
returns-in-Lose c =
    let gs = c.args.groups.now.items in
    let old = c.index_mut-group.result.now in
    let what = c.args.what in
    let there = slice_get_read gs (length gs) c.args.place old refl c.requires c.index_mut-group.ensures.value in
    record {
      called = called_other gs c.args.runs.now.items c.args.place what old c.call.new.self c.call.result (no_delivery what c.in-Lose.is) there c.call.ensures.steps;
      lost = freely what old c.call.new.self c.call.result c.call.ensures.steps c.call.ensures.free;
    }
