pub mod Examples
pub mod Edges
