pub mod OpenLaws
pub mod PlaceLaws
pub mod ReceiveLaws
pub mod SendLaws
pub mod StopLaws
