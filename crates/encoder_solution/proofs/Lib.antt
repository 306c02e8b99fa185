pub mod Chunks
pub mod Gathered
pub mod Masked
pub mod Solution
pub mod Stack
pub mod Words
