-- What is known of a unit so far.
pub mod Bodies
pub mod Labels
pub mod Types
pub mod Values
