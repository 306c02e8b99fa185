pub mod Stretch
pub mod Accepted
pub mod Shown
pub mod Empty
