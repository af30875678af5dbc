pub mod ApartLaws
pub mod PairLaws
