pub mod Finding
pub mod Summing
