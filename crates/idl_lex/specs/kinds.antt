-- What a spelling counts as.
pub mod KeywordTable
pub mod Keywords
pub mod Kind
pub mod Literal
pub mod Marks
pub mod Number
pub mod Word
pub mod WordTable
