pub mod BasingLaws
pub mod ComingLaws
pub mod RefoldLaws
pub mod StateLaws
