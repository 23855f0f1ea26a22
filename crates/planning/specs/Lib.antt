pub mod Flows
pub mod Plan
pub mod Left
pub mod Rings
pub mod Laws
pub mod RuleLists
pub mod Showing
