pub mod Lines
pub mod Records
pub mod Judging
pub mod Law
