pub mod Alike
pub mod Streams
pub mod Output
pub mod Running
pub mod Turning
