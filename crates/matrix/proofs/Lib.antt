pub mod Bits
pub mod Block
pub mod Bytes
pub mod Filled
pub mod Ones
pub mod Packed
pub mod Product
pub mod Wrong
