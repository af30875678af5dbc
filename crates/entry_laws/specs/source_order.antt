pub mod Meant
pub mod Sources
