pub mod Buckets
pub mod Entries
pub mod Items
pub mod Marks
pub mod Order
pub mod Table
