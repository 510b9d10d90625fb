use Rattle.std.proofs.Common.{◌≡◌, ◌+◌, ◌<◌, ◌%◌}
use Rattle.std.specs.Option.{option_map}
use Rattle.world_core.specs.Answers.{answer_at}
use Rattle.world_front.specs.Joining.{joined_with}
use Rattle.world_core.specs.Listing.{listing_of}
use Rattle.world_core.proofs.JoinedPieces.{rest_of}
use Rattle.world_core.proofs.joining.join_pieces.Given as goal

abbrev pub invariant-loop-place : goal.invariant-loop-place
invariant-loop-place l = record {
  low : l.first % 4294967296 + l.place < 4294967296;
  rest : option_map (joined_with l.joined) (rest_of (answer_at l.world) (record { first = l.first; count = l.count }) l.place) ≡ listing_of (answer_at l.world) (record { first = l.first; count = l.count });
}
