pub mod Indexes
pub mod Listed
pub mod Lists
pub mod Buckets
pub mod KeptPlaces
pub mod Pairs
pub mod Places
pub mod Slots
