-- What a walk leaves behind the sites of a unit.
pub mod AheadLaws
pub mod FirstLaws
pub mod FurtherLaws
pub mod KnownLaws
pub mod MeaningLaws
pub mod MoreTurns
pub mod NameLaws
pub mod RowLaws
pub mod SpokenLaws
pub mod StepLaws
pub mod ValuedLaws
