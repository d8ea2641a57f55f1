pub mod Law
pub mod Example
