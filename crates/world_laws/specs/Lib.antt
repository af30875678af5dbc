pub mod world_runs
pub mod world_answers
