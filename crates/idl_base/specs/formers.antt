pub mod boxed
pub mod seq
