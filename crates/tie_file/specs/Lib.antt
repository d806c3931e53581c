pub mod Table
pub mod Bodies
pub mod Reading
pub mod Source
pub mod Steps
pub mod Writing
pub mod Putting
