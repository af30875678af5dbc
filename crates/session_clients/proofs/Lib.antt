pub mod Standing
mod Keeping
mod Scripts
