pub mod Openings
pub mod Reading
pub mod TwoWriters
pub mod Answering
