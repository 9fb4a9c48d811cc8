pub mod Hash
pub mod Order
pub mod Private
pub mod Sums
