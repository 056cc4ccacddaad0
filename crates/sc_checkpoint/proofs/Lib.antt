pub mod Marking
mod Bits
pub mod Replacing
pub mod Spanned
