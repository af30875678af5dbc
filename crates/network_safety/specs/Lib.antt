pub mod Safe
pub mod Served
pub mod Strangers
pub mod Gone
pub mod Rings
pub mod Logs
pub mod Opens
