pub mod Journal
pub mod Replaying
pub mod FaultText
