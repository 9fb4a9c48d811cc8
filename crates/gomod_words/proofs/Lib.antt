pub mod Asked
mod Commands
mod EntriesFaults
mod Exclusion
mod Faults
pub mod GivenWords
mod Limits
mod UsageLines
