pub mod Course
pub mod Outcome
pub mod Writing
