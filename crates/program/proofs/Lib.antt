pub mod Bounds
pub mod Printing
pub mod Starting
pub mod ProgramReady
