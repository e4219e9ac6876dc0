pub mod Nesting
pub mod Parses
pub mod Stops
