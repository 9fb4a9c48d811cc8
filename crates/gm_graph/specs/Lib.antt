pub mod Private
pub mod WorklistFaults
pub mod Outcome
pub mod Entries
pub mod Run
