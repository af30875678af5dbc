pub mod ReadingLaws
pub mod SettingsLaws
pub mod CallLaws
