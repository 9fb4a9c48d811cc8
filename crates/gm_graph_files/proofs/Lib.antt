pub mod Excluding
pub mod OneReading
pub mod Misread
pub mod Spans
pub mod SharedLists
pub mod KeptLists
pub mod Ordered
