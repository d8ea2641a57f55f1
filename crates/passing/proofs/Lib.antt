pub mod Counting
pub mod Marks
pub mod Telling
pub mod Pending
pub mod Passed
pub mod Laws
pub mod Example
