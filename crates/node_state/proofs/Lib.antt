pub mod AlongLaws
pub mod NameOrder
