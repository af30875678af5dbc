pub mod Best
pub mod Names
pub mod Fitting
