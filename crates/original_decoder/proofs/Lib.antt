pub mod Kept
pub mod Counted
pub mod Rounds
pub mod DecodeCall
