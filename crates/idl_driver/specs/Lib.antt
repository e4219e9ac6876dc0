pub mod Compilations
pub mod Compiled
pub mod Left
pub mod Loading
pub mod Messages
pub mod Options
pub mod Parsed
pub mod Rows
pub mod Tried
pub mod Words
pub mod Written
pub use Rattle.idl_sources.specs as idl_sources
