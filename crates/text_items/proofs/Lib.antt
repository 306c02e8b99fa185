pub mod Handing
pub mod Numbers
pub mod Fields
pub mod Lines
pub mod Scans
