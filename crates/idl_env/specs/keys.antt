-- What is asked of an environment, as it is stored and as it is lent.
pub mod Digested
pub mod HeldKey
pub mod Key
pub mod LentKey
pub mod Outline
