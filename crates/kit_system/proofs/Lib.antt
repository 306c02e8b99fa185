pub mod Places
pub mod SystemRows
pub mod Terms
