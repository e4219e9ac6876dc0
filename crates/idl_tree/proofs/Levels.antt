-- What readers read alike, however many levels they are allowed beyond those that are there.
pub mod Alike
pub mod Constructions
pub mod Expressions
pub mod Interfaces
pub mod Tokens
pub mod Types
pub mod Units
