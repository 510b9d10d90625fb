use Rattle.store_core.proofs.Listing.{names_in-sorted as law}
use Rattle.entry_core.proofs.laws.listings_are_sorted.Goals as goal

pub returns : goal.returns
returns c = law
