-- What only the code's own contracts and proofs say: no public contract reaches it.
pub mod Asking
pub mod Findings
pub mod Followed
pub mod Gathering
pub mod Marks
pub mod TurnVisits
pub mod Turns
pub mod Visiting
pub mod Worklists
