pub mod attending
pub mod single_casts
pub mod leaving
pub mod resting
