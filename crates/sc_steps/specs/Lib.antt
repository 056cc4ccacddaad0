pub mod Failing
pub mod Faults
pub mod Inputs
pub mod Opening
pub mod TwoWriters
pub mod Script
pub mod Steps
