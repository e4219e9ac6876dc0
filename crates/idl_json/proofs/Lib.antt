mod FloatLemmas
mod TextLemmas
mod LineLemmas
mod ListLemmas
mod ListedLemmas
mod ChangeLemmas
mod ReadingLemmas
