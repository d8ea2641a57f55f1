pub mod Direction
pub mod Extents
pub mod Refusals
pub mod Ios
pub mod Rates
pub mod Settings
