pub mod Weights
pub mod Remainders
pub mod Columns
pub mod Tail
pub mod Lines
pub mod Tables
pub mod Count
pub mod Lent
