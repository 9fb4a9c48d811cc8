pub mod Laws
pub mod Private
pub mod Program
pub mod Written
