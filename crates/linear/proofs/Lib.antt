pub mod Counts
pub mod Moves
pub mod Pivots
pub mod Raised
pub mod Rows
pub mod Systems
pub mod Valued
