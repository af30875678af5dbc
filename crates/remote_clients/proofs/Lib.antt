pub mod TextLaws
pub mod PlainLaws
pub mod ToldLaws
pub mod EntryOrder
