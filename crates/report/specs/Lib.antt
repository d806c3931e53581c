pub mod Faults
pub mod Printed
pub mod Reported
