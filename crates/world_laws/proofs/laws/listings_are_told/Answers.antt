use Rattle.world_laws.proofs.ListingLaws.{lists_have_pieces, listings_are_told, accepted_listings}
use Rattle.world_laws.proofs.laws.listings_are_told.Goals as goal

pub returns : goal.returns
returns c = record { pieces = lists_have_pieces; told = listings_are_told; accepted = accepted_listings }
