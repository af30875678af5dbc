pub mod Going
pub mod Apart
pub mod Sorting
pub mod Orders
