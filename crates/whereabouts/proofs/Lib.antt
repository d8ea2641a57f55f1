pub mod Sums
pub mod Lines
pub mod Runs
pub mod Kept
pub mod Finding
pub mod Keeps
pub mod Example
