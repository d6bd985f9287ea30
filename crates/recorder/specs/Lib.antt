pub mod Course
pub mod Turns
