use Rattle.std.proofs.Common.{◌≡◌, Some, arith}
use Rattle.std.specs.Prelude.{slice_get}
use Rattle.cluster_locks.proofs.Places.{get_at}
use Rattle.cluster.proofs.Moved.{looked_nowhere, looked_through, none_full, none_more, found_through, goes_nowhere, begins_there}
use Rattle.cluster.proofs.group_moves.any_full.Goals as goal

pub loop-k-init : goal.loop-k-init
loop-k-init g c = record {
  own = c.requires.own;
  looked = looked_nowhere c.args.seats.now;
  none = none_full c.args.cluster.now c.args.map.now c.args.command.now c.args.places.now c.args.seats.now;
}

pub returns-then-full_at-clause-looked : goal.returns-then-full_at-clause-looked
returns-then-full_at-clause-looked g c = looked_through c.args.seats.now c.loop-k.seats c.full_at.new.seats c.loop-k.invariant.looked c.full_at.ensures.looked

pub returns-then-full_at-clause-found : goal.returns-then-full_at-clause-found
returns-then-full_at-clause-found g c = let h = c.loop-k-test.true in
    let there : slice_get c.args.places.now c.loop-k.k ≡ Some c.index-places-k.result = get_at c.args.places.now c.loop-k.k c.index-places-k.result (omega arith) c.index-places-k.is in (
      c.loop-k.k,
      (c.index-places-k.result, there, c.if-full_at.ensures.found.0),
      found_through c.args.cluster.now c.loop-k.k _ c.args.seats.now c.loop-k.seats c.full_at.new.seats c.full_at.new.seats c.loop-k.invariant.looked.goes c.if-full_at.ensures.found.1 (goes_nowhere c.full_at.new.seats),
    )

pub loop-k-preserved : goal.loop-k-preserved
loop-k-preserved g c = let h = c.loop-k-test.true in
    let there : slice_get c.args.places.now c.loop-k.k ≡ Some c.index-places-k.result = get_at c.args.places.now c.loop-k.k c.index-places-k.result (omega arith) c.index-places-k.is in record {
      own = c.full_at.ensures.own;
      looked = looked_through c.args.seats.now c.loop-k.seats c.full_at.new.seats c.loop-k.invariant.looked c.full_at.ensures.looked;
      none = none_more c.args.cluster.now c.args.map.now c.args.command.now c.args.places.now c.loop-k.k c.args.seats.now c.loop-k.seats c.full_at.new.seats c.loop-k.invariant.looked c.loop-k.invariant.none c.full_at.ensures.looked
          (λ b. c.if-full_at.ensures.found (begins_there c.args.map.now c.args.command.now c.args.places.now c.loop-k.k c.index-places-k.result there b));
    }
