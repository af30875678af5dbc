pub mod Arriving
pub mod Carried
pub mod Filling
