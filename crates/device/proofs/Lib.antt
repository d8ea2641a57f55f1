pub mod Collections
pub mod Exact
pub mod Sweeping
