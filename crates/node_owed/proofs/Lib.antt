pub mod SendLaws
pub mod LossLaws
