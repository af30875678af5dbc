pub mod Bound
pub mod Lasting
pub mod Laws
pub mod RunLaws
