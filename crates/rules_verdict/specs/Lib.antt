pub mod Number
pub mod Demand1
