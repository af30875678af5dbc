pub mod Casts
pub mod Scenes
