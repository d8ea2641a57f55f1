pub mod Faults
pub mod Rows
pub mod Calls
pub mod Sound
pub mod Laws
pub mod Moments
