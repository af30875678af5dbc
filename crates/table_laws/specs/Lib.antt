pub mod Agreeing
pub mod Carrying
pub mod Firsts
pub mod GroupLists
pub mod Maps
pub mod Notices
pub mod Samples
pub mod Voting
