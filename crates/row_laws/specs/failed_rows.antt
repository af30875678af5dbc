pub mod Failures
pub mod Scenes
