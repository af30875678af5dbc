pub mod EqualsLaws
pub mod AttrLaws
