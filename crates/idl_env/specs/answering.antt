-- What is answered, and how an addition changes it.
pub mod OpenScopes
pub mod Scope
pub mod Walked
