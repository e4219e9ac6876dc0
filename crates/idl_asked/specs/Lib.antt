pub mod Blocks
pub mod Entries
pub mod Ids
pub mod Names
pub mod Units
