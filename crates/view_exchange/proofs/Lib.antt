pub mod Formats
pub mod Gathered
pub mod Edits
pub mod Longest
pub mod Drops
pub mod InOrder
pub mod Coming
