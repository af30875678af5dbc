pub mod ActionLaws
pub mod AddLaws
pub mod AloneLaws
pub mod AskLaws
pub mod DoingLaws
pub mod MadeLaws
pub mod OptionLaws
pub mod SilenceLaws
