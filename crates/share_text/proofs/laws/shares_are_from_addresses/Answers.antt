use Rattle.share_text.proofs.Given.{from_and_to_addresses}
use Rattle.share_text.proofs.laws.shares_are_from_addresses.Goals as goal

pub returns : goal.returns
returns c = from_and_to_addresses
