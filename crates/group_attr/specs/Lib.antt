pub mod Agree
pub mod Attrs
pub mod Codec
