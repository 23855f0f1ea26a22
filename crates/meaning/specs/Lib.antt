pub mod Ranks
pub mod Calc
pub mod Lists
pub mod Masks
pub mod Extremes
