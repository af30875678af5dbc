pub mod WaitLaws
pub mod AskLaws
pub mod UnwrittenLaws
