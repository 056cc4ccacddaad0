pub mod Places
pub mod Given
pub mod Step
pub mod Stamping
pub mod Turns
pub mod Rising
pub mod Accepted
