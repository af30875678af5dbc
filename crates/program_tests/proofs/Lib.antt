pub mod AnswerLaws
pub mod PlaceLaws
