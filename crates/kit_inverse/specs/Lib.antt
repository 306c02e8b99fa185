pub mod Fits
pub mod Products
