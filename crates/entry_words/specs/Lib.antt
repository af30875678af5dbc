pub mod Wording
pub mod Words
pub mod Attrs
