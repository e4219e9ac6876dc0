-- What a reply is made of.
pub mod Announced
pub mod Replies
pub mod Rows
