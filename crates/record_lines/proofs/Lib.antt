pub mod EntryLaws
pub mod FitLaws
pub mod ReadLaws
pub mod TextLaws
