pub mod CommandLine
pub mod Complete
pub mod Orders
pub mod Table
