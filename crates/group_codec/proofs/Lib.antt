pub mod AttrFormat
pub mod ProposalFormat
pub mod EntryFormat
pub mod SizeLaws
pub mod StateFormat
pub mod StateLaws
