pub mod Refusals
pub mod Records
pub mod Checks
pub mod Making
