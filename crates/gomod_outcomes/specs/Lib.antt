pub mod Edit
pub mod Fmt
pub mod Needs
pub mod Private
pub mod Runs
pub mod Versions
