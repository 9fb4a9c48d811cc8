-- What only the code's own contracts and proofs say: no public contract reaches it.
pub mod DepLines
pub mod Holding
pub mod Indexes
pub mod Reading
pub mod Requirements
pub mod Retracting
pub mod SimpleLines
pub mod Swept
