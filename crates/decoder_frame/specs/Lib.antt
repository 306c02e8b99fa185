pub mod Filled
pub mod Stretch
