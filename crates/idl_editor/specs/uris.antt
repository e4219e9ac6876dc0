pub mod Uri
pub mod Folders
