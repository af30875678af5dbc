pub mod Group
pub mod Body
