pub mod AnnouncedLemmas
pub mod CompleteLemmas
pub mod HeadingLemmas
pub mod RunLemmas
pub mod ServeLemmas
pub mod SearchLemmas
pub mod StreamLemmas
