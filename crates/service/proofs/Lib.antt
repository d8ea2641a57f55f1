pub mod Finding
pub mod Tables
pub mod Sounding
pub mod Facts
pub mod Reserves
pub mod Lasting
