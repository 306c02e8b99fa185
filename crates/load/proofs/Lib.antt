pub mod Turning
pub mod LoadCalls
pub mod Demand1
