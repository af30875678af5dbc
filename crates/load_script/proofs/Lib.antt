pub mod CountLaws
pub mod StepLaws
