pub mod Owned
pub mod Standing
