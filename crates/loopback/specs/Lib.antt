pub mod Link
pub mod OrderMoved
