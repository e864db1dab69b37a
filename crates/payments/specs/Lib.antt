pub mod Rules
pub mod Key
pub mod Faults
