pub mod Backwards
pub mod Queue
pub mod Traces
pub mod Limited
pub mod Plays
pub mod Whole
