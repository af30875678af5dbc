pub mod NameLaws
pub mod TellLaws
pub mod EntryLaws
