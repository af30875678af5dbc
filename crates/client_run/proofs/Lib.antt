pub mod TextLaws
pub mod TurnLaws
pub mod RunLaws
pub mod UseLaws
