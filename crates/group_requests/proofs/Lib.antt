pub mod AckLaws
pub mod GoneLaws
pub mod VoteLaws
pub mod RequestLaws
