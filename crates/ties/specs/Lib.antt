pub mod Layouts
pub mod Equations
pub mod Faults
pub mod Propositions
