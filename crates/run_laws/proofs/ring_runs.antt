pub mod Stepping
pub mod Finding
pub mod Staying
pub mod Playing
pub mod Ticking
pub mod Starting
pub mod Law
pub mod Settings
