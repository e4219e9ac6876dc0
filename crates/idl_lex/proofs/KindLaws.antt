-- What tells a token's kind.
pub mod AlikeLemmas
pub mod HeaderLemmas
pub mod KindLemmas
pub mod LiteralLemmas
pub mod LoneLemmas
pub mod MarkLemmas
pub mod NumberLemmas
pub mod TableLemmas
pub mod WordLemmas
