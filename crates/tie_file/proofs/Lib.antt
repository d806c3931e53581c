pub mod Bytes
pub mod Keeping
pub mod Laying
pub mod Stating
pub mod Unique
pub mod Writes
pub mod WellFormed
mod Fitting
