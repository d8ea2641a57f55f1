pub mod Arrays
pub mod Front
pub mod Taking
