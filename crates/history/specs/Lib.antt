pub mod Calls
pub mod Steps
pub mod Histories
pub mod Logs
pub mod Laws
