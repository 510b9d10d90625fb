pub mod Story
pub mod Wire
