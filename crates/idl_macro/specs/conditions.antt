pub mod Arithmetic
pub mod Condition
pub mod Grammar
pub mod Mark
pub mod Number
pub mod Operator
pub mod Symbol
pub mod Waiting
