pub mod Cleared
pub mod Steps
