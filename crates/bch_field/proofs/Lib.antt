pub mod Quarters
pub mod Solved
