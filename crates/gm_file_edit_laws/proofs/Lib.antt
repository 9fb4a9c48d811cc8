pub mod EntryDirectives
pub mod Dropped
pub mod EditedDirectives
pub mod EitherOrder
pub mod Comments
pub mod Additions
pub mod SecondOperations
pub mod UndoingDrops
