pub mod Sites
pub mod Told
pub mod Positions
