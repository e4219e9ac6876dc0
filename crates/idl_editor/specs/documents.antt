pub mod Documents
pub mod Uris
pub mod Notices
pub mod Refused
