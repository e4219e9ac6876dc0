pub mod Message
pub mod Heads
pub mod Reading
pub mod Written
