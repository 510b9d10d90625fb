use Rattle.std.proofs.Common.{◌≡◌, ◌∙◌, ◌+◌, ◌<◌, ◌≤◌, ◌%◌, ℕ, Some, arith, ap, mod-lt}
use Rattle.std.specs.Option.{option_map}
use Rattle.world_core.specs.Answers.{answer_at}
use Rattle.world_front.specs.declared.session.ListRange.{ListRange}
use Rattle.world_front.specs.Joining.{joined_with}
use Rattle.world_core.proofs.Answering.{low_next}
use Rattle.world_core.proofs.JoinedPieces.{rest_of, begins, one_more, one_open, ends}
use Rattle.world_core.proofs.joining.join_pieces.Goals as goal

pub loop-place-init : goal.loop-place-init
loop-place-init c =
    let list : ListRange = record { first = c.args.first; count = c.args.count } in
    record {
      low = from_first c.args.first;
      rest = ap (λ j. option_map (joined_with j) (rest_of (answer_at c.args.world.now) list 0)) c.new-joined.ensures ∙ begins (answer_at c.args.world.now) list;
    }
  where
    from_first : (first : ℕ) → first % 4294967296 + 0 < 4294967296
    from_first first = let low : first % 4294967296 < 4294967296 = mod-lt first (omega arith) in omega arith

pub piece_id-requires : goal.piece_id-requires
piece_id-requires c = c.loop-place.invariant.low

pub returns-in-None : goal.returns-in-None
returns-in-None c =
    let list : ListRange = record { first = c.args.first; count = c.args.count } in
    one_open (answer_at c.args.world.now) list c.loop-place.place c.loop-place.joined c.loop-place-test.true (c.in-None.ensures.reply ∙ ap (answer_at c.args.world.now) c.piece_id.ensures)
    ∙ c.loop-place.invariant.rest

pub loop-place-preserved : goal.loop-place-preserved
loop-place-preserved c =
    let list : ListRange = record { first = c.args.first; count = c.args.count } in
    record {
      low = low_next c.args.first c.loop-place.place c.piece_id.result c.loop-place.invariant.low c.piece_id.ensures c.in-Some.ensures.low;
      rest = ap (λ j. option_map (joined_with j) (rest_of (answer_at c.args.world.now) list (c.loop-place.place + 1))) c.in_ok-add.ensures
          ∙ one_more (answer_at c.args.world.now) list c.loop-place.place c.loop-place.joined c.in-Some.reply.now c.loop-place-test.true (c.in-Some.ensures.reply ∙ ap (answer_at c.args.world.now) c.piece_id.ensures)
          ∙ c.loop-place.invariant.rest;
    }

pub returns : goal.returns
returns c =
    let list : ListRange = record { first = c.args.first; count = c.args.count } in
    let most : c.loop-place.place ≤ c.args.count = c.loop-place.auto.place-end in
    let past = c.loop-place-test.false in
    let all : c.loop-place.place ≡ c.args.count = omega arith in
    ap Some c.in_ok-into_reply.ensures ∙ ends (answer_at c.args.world.now) list c.loop-place.place c.loop-place.joined all ∙ c.loop-place.invariant.rest
