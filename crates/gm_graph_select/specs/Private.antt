-- What only the code's own contracts and proofs say: no public contract reaches it.
pub mod Adjacency
pub mod Marking
pub mod Numbering
pub mod Ranking
pub mod Searching
pub mod Spans
pub mod EdgeOrder
