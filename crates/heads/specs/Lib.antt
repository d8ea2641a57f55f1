pub mod Heads
pub mod Edges
pub mod Places
