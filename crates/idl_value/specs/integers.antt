-- Integers of a size, and their bits.
pub mod Bits
pub mod Integer
pub mod SameInteger
