pub mod Appending
pub mod Consuming
pub mod Counts
pub mod NameOrder
pub mod Splits
pub mod Cuts
pub mod Shown
pub mod Serving
pub mod Answering
mod Failing
