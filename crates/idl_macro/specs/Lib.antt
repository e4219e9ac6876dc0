pub mod Condition
pub mod Directives
pub mod Macros
pub mod Output
pub mod Replace
pub mod Words
pub mod conditions
