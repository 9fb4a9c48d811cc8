pub mod Hints
pub mod Private
