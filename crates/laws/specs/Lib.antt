pub mod Ascii
pub mod Choice
pub mod Found
pub mod Scan
pub mod Steps
pub mod Sums
pub mod Values
