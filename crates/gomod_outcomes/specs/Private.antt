-- What only the code's own contracts and proofs say: no public contract reaches it.
pub mod Asking
pub mod ByCommand
pub mod Ended
pub mod Folders
pub mod Found
pub mod Refusals
pub mod VersionsRuns
