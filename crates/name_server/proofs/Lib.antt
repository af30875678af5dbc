pub mod NameLaws
pub mod AskedLaws
