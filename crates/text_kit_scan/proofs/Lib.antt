pub mod TwoLines
pub mod ListLines
pub mod PartLaws
pub mod RestLaws
