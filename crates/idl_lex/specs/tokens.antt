-- Tokens, and where each begins and ends.
pub mod Apart
pub mod Lexer
pub mod Logical
pub mod Tokens
