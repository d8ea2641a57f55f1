pub mod Usage
pub mod Laws
pub mod Histories
