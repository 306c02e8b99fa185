pub mod Answers
pub mod Sizes
pub mod Allowed
