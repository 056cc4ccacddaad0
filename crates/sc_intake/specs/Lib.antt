-- what public contracts cite
pub mod Blanks
pub mod Fault
pub mod FaultText
pub mod Field
pub mod File
pub mod Rows
pub mod Schools
pub mod Roster
pub mod Lists
pub mod Papers
pub mod Checking
pub mod Script
pub mod Log
-- what the crate's own functions, its models and their proofs need
pub mod Cursor
pub mod Choice
pub mod TextLines
pub mod Plain
pub mod Reading
pub mod Representation
pub mod Seen
pub mod Sheets
pub mod Tidy
pub mod Together
pub mod Unquoted
