mod Books
mod Cases
mod Checks
mod Counting
mod Pair
mod Single
pub mod Small
mod Uneven
mod Unique
