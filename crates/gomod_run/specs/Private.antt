-- What only the code's own contracts and proofs say: no public contract reaches it.
pub mod Stopped
