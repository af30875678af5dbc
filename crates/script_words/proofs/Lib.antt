pub mod FourLaws
pub mod HeadLaws
