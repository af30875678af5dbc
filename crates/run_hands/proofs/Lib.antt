pub mod EveryLog
pub mod FoldLaws
