pub mod Ledger
pub mod Kept
pub mod Stepping
pub mod Example
