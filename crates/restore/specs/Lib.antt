pub mod ByNotes
pub mod Found
pub mod Restored
pub mod Answer
pub mod Told
pub mod Yields
pub mod Origin
