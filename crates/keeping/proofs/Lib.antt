pub mod Forgetting
pub mod Keeping
pub mod Rebuilding
pub mod Totals
pub mod ByPairs
