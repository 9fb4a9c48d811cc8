pub mod Escape
pub mod NameText
pub mod Number
pub mod Private
pub mod Readings
pub mod Version
pub mod VersionOrder
