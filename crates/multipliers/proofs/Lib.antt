pub mod Growing
pub mod Concluding
mod Pairing
pub mod Trusted
