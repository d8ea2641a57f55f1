pub mod Windows
pub mod Moves
pub mod Counting
