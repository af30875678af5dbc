pub mod PortLaws
pub mod MomentLaws
