pub mod Parts
pub mod Codec
pub mod Tails
pub mod Answers
pub mod Bases
pub mod Carried
pub mod Cut
pub mod Views
