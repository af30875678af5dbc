pub mod Carrying
pub mod Routes
pub mod Bare
pub mod Direct
pub mod Plays
