pub mod Starts
pub mod Posting
pub mod Cuts
pub mod Faults
