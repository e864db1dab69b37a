pub mod Prepared
pub mod Answer
pub mod Default
pub mod Outcome
pub mod DefaultOutcome
pub mod SoundOutcome
