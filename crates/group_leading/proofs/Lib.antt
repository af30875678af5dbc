pub mod AnswerLaws
pub mod CloseLaws
pub mod HandedLaws
pub mod LeadLaws
pub mod RowLaws
pub mod WorkLaws
