pub mod ViewOrder
pub mod TailLaws
