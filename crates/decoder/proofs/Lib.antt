pub mod Room
pub mod Keeping
pub mod Rounds
pub mod DecodeCall
