pub mod Places
pub mod Law
pub mod Example
