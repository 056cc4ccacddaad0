pub mod Line
pub mod Spelling
pub mod Reading
