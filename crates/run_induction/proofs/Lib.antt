pub mod Idle
pub mod Quiet
pub mod Ran
pub mod Renoted
pub mod Laws
pub mod Invariants
