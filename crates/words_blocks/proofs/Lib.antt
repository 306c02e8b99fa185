pub mod BlockRemainders
pub mod Blocks
pub mod Sums
