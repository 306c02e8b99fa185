pub mod Tables
pub mod Filling
pub mod Numbers
pub mod Limit
pub mod Positions
pub mod Feed
