pub mod Numerals
pub mod Requests
pub mod Texts
pub mod Travel
pub mod Courses
