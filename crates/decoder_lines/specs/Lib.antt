pub mod Links
pub mod Layouts
