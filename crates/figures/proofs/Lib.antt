pub mod Naming
pub mod EachOutput
pub mod Entries
pub mod Holding
pub mod Turning
pub mod Taking
pub mod InOrder
pub mod Lawful
