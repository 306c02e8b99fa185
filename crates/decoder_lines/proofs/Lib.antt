pub mod Places
pub mod Links
pub mod Layouts
pub mod CrossingWord
