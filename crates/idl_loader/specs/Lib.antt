pub mod Exit
pub mod Gathering
pub mod Holding
pub mod Lines
