pub mod Fair
pub mod Law
pub mod Deaths
