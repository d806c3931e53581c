pub mod Codes
pub mod Ring
pub mod Sums
pub mod Coded
pub mod Levels
