pub mod Sending
pub mod Scheduling
pub mod Laws
pub mod Exact
