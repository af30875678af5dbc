pub mod EnvelopeLaws
pub mod NetworkLaws
