-- What only the code's own contracts and proofs say: no public contract reaches it.
pub mod Lists
pub mod KeptNames
pub mod TagMarks
pub mod Tags
