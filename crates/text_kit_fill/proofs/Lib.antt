pub mod Filling
pub mod Packing
pub mod RowFilling
