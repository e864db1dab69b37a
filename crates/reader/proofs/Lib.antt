pub mod Answers
pub mod Course
pub mod Figures
pub mod OnePair
pub mod Reading
