pub mod Record
pub mod Filed
pub mod Answer
pub mod Writing
pub mod Course
