pub mod WholeLaws
pub mod BodyFormats
pub mod DatagramLaws
