pub mod Marked
pub mod Printed
