-- What pragmas come to.
pub mod PragmaLemmas
pub mod PragmaTokens
pub mod RemarkLemmas
