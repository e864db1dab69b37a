pub mod Reads
pub mod Rules
pub mod Files
