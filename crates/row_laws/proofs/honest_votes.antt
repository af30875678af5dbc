pub mod More
pub mod At
pub mod Closes
pub mod Gathers
pub mod Changes
pub mod Steps
pub mod Law
