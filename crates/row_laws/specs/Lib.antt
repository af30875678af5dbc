pub mod hearing
pub mod honest_votes
pub mod failed_rows
