pub mod TallyLaws
pub mod OrderLaws
pub mod VoterLaws
