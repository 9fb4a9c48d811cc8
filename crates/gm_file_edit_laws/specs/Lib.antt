pub mod Laws
pub mod EditLaws
pub mod GoPlace
pub mod UndoingEdits
