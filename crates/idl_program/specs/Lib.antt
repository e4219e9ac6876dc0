pub mod Compiled
pub mod Rows
pub mod Served
pub mod Words
pub use Rattle.idl_driver.specs as idl_driver
pub use Rattle.idl_session.specs as idl_session
