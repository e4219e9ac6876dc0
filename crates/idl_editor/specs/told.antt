pub mod Json
pub mod Diagnostics
pub mod Published
pub mod Found
