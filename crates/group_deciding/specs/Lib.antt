pub mod Passing
pub mod BeginFailures
pub mod BeginJoins
pub mod LateVotes
pub mod Idle
