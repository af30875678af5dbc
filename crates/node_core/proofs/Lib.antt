pub mod StepLaws
pub mod StartLaws
pub mod PartLaws
pub mod SendLaws
