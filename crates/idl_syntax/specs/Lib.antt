pub mod Gives
pub mod Next
pub mod Literal
pub mod Steps
pub mod Nested
pub mod Behind
