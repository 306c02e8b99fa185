pub mod Located
pub mod Steps
