pub mod Lists
pub mod Taken
pub mod MaskBits
pub mod FromFn
