pub mod Buckets
pub mod Index
pub mod Numbers
pub mod Obtained
pub mod Order
pub mod Shelved
pub mod Spots
pub mod Stored
