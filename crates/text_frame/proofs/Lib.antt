pub mod Answering
pub mod Calls
