pub mod NextChoices
pub mod Chains
pub mod Ranks
pub mod Spans
pub mod Positions
