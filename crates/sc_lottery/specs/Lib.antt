pub mod Draw
pub mod Seed
pub mod Stream
