pub mod Roll
pub mod Held
pub mod Heap
