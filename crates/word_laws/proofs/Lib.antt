pub mod Pieces
pub mod ValueLaws
pub mod AttributeLaws
pub mod EntryLaws
pub mod RefusalLaws
