pub mod Ways
pub mod Blanks
pub mod Update
pub mod Laws
pub mod Working
