mod Books
mod Choosing
mod Coding
mod Counted
mod Exactness
pub mod Faultless
pub mod Filling
mod Posts
pub mod Loads
mod Queries
mod Refuting
mod Returning
mod Sheeted
mod Writes
mod Spots
mod Steps
