use Rattle.std.proofs.Common.{◌≡◌, ◌<◌, length, get_or, arith, refl}
use Rattle.turn_lock.specs.Seats.{lock_of, seat_lock}
use Rattle.std.proofs.lemmas.Option.{slice_get-get_or}
use Rattle.cluster_locks.proofs.Places.{at_read, put_same, get_at, same_at, same_length}
use Rattle.std.proofs.lemmas.Grind.{common_steps}
use Rattle.cluster_locks.proofs.rows.turn_at.Goals as goal

pub turn-requires : goal.turn-requires
turn-requires g c = same_at seat_lock lock_of c.args.seats.now c.args.locks.now c.args.k _ _ c.requires.inside c.requires.own (at_read c.args.seats.now c.args.k c.index-seats-k.result c.index-seats-k.is) c.index-locks-k.is

pub returns-clause-locks : goal.returns-clause-locks
returns-clause-locks g c = let ps = c.args.seats.now in let long : length ps ≡ length c.args.locks.now = same_length seat_lock lock_of _ _ c.requires.own in let h = c.requires.inside in
    let inside : c.args.k < length ps = omega arith in
    put_same seat_lock ps c.args.k inside _ _ (at_read ps c.args.k c.index-seats-k.result c.index-seats-k.is) c.turn.ensures.seat.0

pub returns-clause-turn : goal.returns-clause-turn
returns-clause-turn g c = let ps = c.args.seats.now in let k = c.args.k in let long : length ps ≡ length c.args.locks.now = same_length seat_lock lock_of _ _ c.requires.own in let h = c.requires.inside in
    let inside : k < length ps = omega arith in record {
      lock = c.index-locks-k.result;
      before = get_or ps k c.index-seats-k.result;
      after = c.turn.new.seat;
      locked = get_at c.args.locks.now k c.index-locks-k.result h c.index-locks-k.is;
      found = slice_get-get_or ps k c.index-seats-k.result inside;
      stays = refl;
      same = c.turn.ensures.seat;
      share = c.turn.ensures.share;
      turned = c.turn.ensures.turned;
    }

pub bounds-seats-k : goal.bounds-seats-k
bounds-seats-k c = grind (arith, common_steps)
