pub mod Format
pub mod Items
