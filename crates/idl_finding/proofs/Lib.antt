mod FindingLemmas
pub mod LineNumberLemmas
pub mod NumberLemmas
pub mod OrderLemmas
