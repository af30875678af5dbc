pub mod BaseLaws
pub mod BaseOrder
pub mod FillLaws
pub mod ListLaws
pub mod SideLaws
pub mod ToldLaws
pub mod WorkLaws
