pub mod SubsLaws
