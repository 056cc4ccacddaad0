pub mod Number
pub mod Fields
pub mod Representation
