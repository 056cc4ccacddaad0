pub mod Digits
pub mod FirstDigits
pub mod Spelling
