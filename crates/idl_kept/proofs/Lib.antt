pub mod Alike
pub mod Begins
pub mod Drafts
pub mod Likes
pub mod Lists
pub mod Putting
pub mod Roots
pub mod Taking
