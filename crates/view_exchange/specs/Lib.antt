pub mod InPlace
pub mod SourcesInPlace
pub mod Coming
pub mod Gathered
pub mod Longest
