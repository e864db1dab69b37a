pub mod Answers
pub mod Goes
pub mod Outcome
pub mod Sound
pub mod WholeFile
