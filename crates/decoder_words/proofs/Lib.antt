pub mod Word
pub mod Tables
pub mod Corrected
pub mod Marks
