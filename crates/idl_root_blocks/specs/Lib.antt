pub mod Asking
pub mod Blocks
pub mod Finding
pub mod Met
pub mod Outer
pub mod Places
pub mod Units
pub mod verdicts
pub use Rattle.idl_check_laws.specs.idl_check as idl_check
pub use Rattle.idl_check_laws.specs as idl_check_laws
pub use Rattle.idl_unit.specs as idl_unit
