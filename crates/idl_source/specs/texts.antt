-- Lines and files.
pub mod Cut
pub mod Entries
pub mod Line
pub mod Lines
pub mod Texts
