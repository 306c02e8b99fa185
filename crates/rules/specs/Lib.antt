pub mod Answers
pub mod Sizes
pub mod Received
