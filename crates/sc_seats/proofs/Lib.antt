pub mod Order
pub mod Offers
pub mod Ordering
pub mod Heaps
