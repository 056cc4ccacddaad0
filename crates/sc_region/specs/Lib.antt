pub mod Region
pub mod Groups
pub mod Marks
pub mod Roots
pub mod Districts
pub mod Telling
