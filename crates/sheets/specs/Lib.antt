pub mod Placed
pub mod Contents
pub mod Checks
pub mod Refreshing
pub mod Calls
pub mod Questions
