pub mod LastKey
pub mod Places
pub mod Tally
