pub mod DotLaws
pub mod JoinLaws
pub mod PartLaws
pub mod RecordLaws
