pub mod Chars
pub mod Decimal
pub mod Lines
pub mod Placing
pub mod Printed
pub mod Storing
