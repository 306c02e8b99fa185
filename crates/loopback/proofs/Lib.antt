pub mod Demand1
pub mod Places
pub mod Restores
pub mod TwoCalls
pub mod OrderMoved
