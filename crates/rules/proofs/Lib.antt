pub mod Accepted
pub mod Chain
pub mod Entries
pub mod Spare
pub mod OfDesign
