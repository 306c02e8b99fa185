pub mod Counted
pub mod Marks
