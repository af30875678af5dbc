pub mod Slots
pub mod More
pub mod At
pub mod Changes
pub mod Steps
pub mod Law
