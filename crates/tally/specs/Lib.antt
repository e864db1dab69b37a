pub mod Record
pub mod SoFar
pub mod Settle
pub mod Conclude
