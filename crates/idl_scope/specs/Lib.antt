pub mod Finds
pub mod Known
pub mod Lookup
pub mod Meaning
pub mod Question
pub mod Stretch
