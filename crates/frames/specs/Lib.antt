pub mod Weights
pub mod Replies
pub mod Course
pub mod Walks
