-- Statement: contracts of other crates use it.
-- A group whose acting sets each lay within the daemons that were up, as the map gives them.
use Rattle.group_model_whole.specs.Each.{Each}
use Rattle.group_model_whole.specs.Within.{LiesWithin, ActsWithin}
use Rattle.group_model.specs.Group.{Group}
use Rattle.group_model.specs.Reached.{IsReached}

-- each acting set that was passed lay within the daemons that were passed as up, and that exist
pub record IsReachedWithin (g : Group) : Type 0 where
  pub reached : IsReached g
  pub first : LiesWithin reached.daemons reached.acting reached.up
  pub later : Each (ActsWithin reached.daemons) reached.events
