pub mod ListTests
pub mod Numbers
pub mod Versions
pub mod Refusals
pub mod PreReleases
pub mod Escapes
