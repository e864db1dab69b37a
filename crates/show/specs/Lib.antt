pub mod Shown
pub mod Somewhere
