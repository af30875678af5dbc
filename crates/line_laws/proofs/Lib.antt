pub mod Texts
pub mod Differ
pub mod Parts
pub mod Worked
