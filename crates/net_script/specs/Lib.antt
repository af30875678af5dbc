pub mod Standing
pub mod Safe
pub mod Hearing
pub mod Stage
pub mod Ends
pub mod PlaySafe
pub mod Writing
