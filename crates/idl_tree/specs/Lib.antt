pub mod Construction
pub mod DataType
pub mod Expression
pub mod Interface
pub mod Lexeme
pub mod Name
pub mod NameParts
pub mod Pragma
pub mod Several
pub mod Unit
pub mod reading
pub use Rattle.idl_lex.specs as idl_lex
