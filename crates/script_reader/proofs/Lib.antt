pub mod ClientLaws
pub mod EachLaws
pub mod SaidLaws
pub mod ReadLaws
pub mod ScriptLaws
pub mod SettingsLaws
pub mod ClientLines
pub mod CallTexts
