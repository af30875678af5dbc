pub mod Left
pub mod Calling
pub mod Comes
pub mod Events
pub mod Keeping
pub mod Stepping
pub mod Law
