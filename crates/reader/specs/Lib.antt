pub mod Cuts
pub mod State
pub mod Eats
