pub mod bytes
pub mod kinds
pub mod tokens
