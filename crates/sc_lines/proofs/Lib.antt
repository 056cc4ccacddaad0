pub mod Giving
pub mod Words
pub mod SplitWords
pub mod TooManyFields
pub mod Records
