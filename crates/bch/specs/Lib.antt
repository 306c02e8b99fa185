pub mod Polynomial
pub mod Field
pub mod Code
pub mod Powers
pub mod Locator
pub mod Published
pub mod Mirror
