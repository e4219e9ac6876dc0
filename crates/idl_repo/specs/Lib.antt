pub mod Pieces
pub mod TypeCode
pub mod Row
pub mod Entry
pub mod Referred
pub mod details
