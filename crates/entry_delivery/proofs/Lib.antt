pub mod DoingLaws
pub mod HandLaws
pub mod KeepLaws
pub mod OwnerLaws
pub mod ReceiveLaws
pub mod StateLaws
