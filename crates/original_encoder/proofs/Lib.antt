pub mod Rows
pub mod Blocks
pub mod Digits
pub mod EncodeCall
