pub mod Winning
pub mod Failing
pub mod Bases
pub mod NameLaws
pub mod CutLaws
