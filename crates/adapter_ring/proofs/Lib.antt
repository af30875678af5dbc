pub mod AddressLaws
pub mod Parts
pub mod Works
pub mod Runs
