pub mod Counts
pub mod Woven
pub mod Part
pub mod Region
pub mod Undoing
