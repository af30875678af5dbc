pub mod TextLaws
pub mod SplitLaws
pub mod NumberLaws
pub mod NameLaws
pub mod HexLaws
pub mod FourLaws
