pub mod Blocks
pub mod Noting
