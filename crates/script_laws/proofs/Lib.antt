pub mod PlainGroups
pub mod PlainStates
pub mod PlainEvents
pub mod PlainDeliveries
pub mod PlainSettles
pub mod PlainScripts
pub mod PlainKeepings
pub mod WorkedScripts
