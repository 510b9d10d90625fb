pub mod CallList
pub mod RegisteredCalls
pub mod RemovedAttributes
pub mod Runs
pub mod AttributeNames
pub mod Lengths
pub mod Numbers
pub mod Overwrites
