pub mod Flips
pub mod Located
pub mod Passes
pub mod Positions
