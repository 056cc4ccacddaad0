pub mod Growing
pub mod Stamping
pub mod Replays
pub mod Answering
