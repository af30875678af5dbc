pub mod Endings
pub mod Run
pub mod Tables
pub mod Tasks
