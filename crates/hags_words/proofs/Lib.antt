pub mod Pending
pub mod ClapLaws
pub mod GivenLaws
pub mod OptionLaws
pub mod NumberLaws
pub mod SpelledLaws
pub mod FlagLaws
