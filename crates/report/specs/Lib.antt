pub mod Annexes
pub mod Report
