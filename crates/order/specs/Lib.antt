pub mod Order
pub mod Least
pub mod Keys
