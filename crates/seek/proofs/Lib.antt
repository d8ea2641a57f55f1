pub mod Splitting
pub mod Digits
pub mod Filling
pub mod Reading
pub mod Serving
