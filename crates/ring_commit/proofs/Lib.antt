pub mod AckLaws
