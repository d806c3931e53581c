pub mod Runs
pub mod Performed
