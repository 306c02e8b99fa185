pub mod Refused
pub mod Stores
pub mod Demand1
