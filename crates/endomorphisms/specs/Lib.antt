pub mod Groups
pub mod Maps
pub mod Equations
pub mod Faults
pub mod Solving
