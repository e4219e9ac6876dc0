pub mod Answered
pub mod Beneath
pub mod Known
pub mod Written
