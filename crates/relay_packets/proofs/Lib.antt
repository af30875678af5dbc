pub mod ApartLaws
pub mod PairLaws
pub mod ParcelLaws
pub mod SendLaws
