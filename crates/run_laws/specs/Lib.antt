pub mod ring_runs
pub mod seen_runs
pub mod failed_causes
pub mod gapless
pub mod tails
