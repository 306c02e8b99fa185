pub mod Generators
pub mod Powers
pub mod Rows
