pub mod Takers
pub mod Hears
pub mod Left
pub mod Heard
pub mod Alike
