pub mod Turning
pub mod SpreadCall
pub mod MixedEntries
