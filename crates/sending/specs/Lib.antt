pub mod Writing
pub mod Turns
pub mod Course
pub mod Sending
pub mod Whole
