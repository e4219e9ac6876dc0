pub mod Code
pub mod Diagnostic
