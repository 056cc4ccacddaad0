pub mod LastKeys
pub mod Tallying
