pub mod Keeping
pub mod Totals
pub mod ByPairs
