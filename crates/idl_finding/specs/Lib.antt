pub mod Number
pub mod Findings
