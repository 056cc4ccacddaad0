pub mod Files
pub mod Ranges
