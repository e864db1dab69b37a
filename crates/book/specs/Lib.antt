pub mod Model
pub mod Kept
pub mod Laws
pub mod Told
