pub mod History
pub mod Record
pub mod Stamps
pub mod Verdict
