pub mod Fields
pub mod Carried
pub mod Filing
