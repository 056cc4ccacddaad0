pub mod Seen
pub mod Backwards
pub mod FirstTwo
