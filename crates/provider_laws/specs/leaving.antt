pub mod Scenes
pub mod LetGo
