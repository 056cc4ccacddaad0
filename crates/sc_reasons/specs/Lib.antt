pub mod Rising
pub mod Entrants
pub mod Cutoff
pub mod Reason
