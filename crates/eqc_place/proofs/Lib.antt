pub mod AllowedLaws
pub mod PlaceLaws
pub mod ToldLaws
