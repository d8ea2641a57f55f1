pub mod Candidates
pub mod Picking
