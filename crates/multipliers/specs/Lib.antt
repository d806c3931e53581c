pub mod Refuting
pub mod Totals
pub mod Checked
