pub mod Shape
pub mod Slots
pub mod Walk
pub mod Whole
pub mod Fits
pub mod Turns
pub mod Found
