pub mod Wrong
pub mod Told
pub mod Q
pub mod Z
pub mod Faults
