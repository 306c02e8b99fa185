pub mod Halves
pub mod MakeCall
pub mod SystemMade
