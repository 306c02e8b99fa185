pub mod Groups
pub mod ListedBits
pub mod Tiles
