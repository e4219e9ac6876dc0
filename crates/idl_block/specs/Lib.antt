pub mod Behind
pub mod Blocks
pub mod Questions
pub mod facts
