pub mod Courses
pub mod Running
