pub mod Levels
pub mod Rules
pub mod Names
pub mod Laws
