pub mod StatusLaws
