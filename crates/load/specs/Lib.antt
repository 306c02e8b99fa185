pub mod Buffer
pub mod Checks
