pub mod RisingLemmas
pub mod EntrantLemmas
pub mod CutoffLemmas
pub mod ReasonLemmas
