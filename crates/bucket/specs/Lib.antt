pub mod Buckets
pub mod Pairs
pub mod Settling
pub mod Due
pub mod Windows
pub mod Edges
