pub mod Adding
pub mod Discs
pub mod Lowering
pub mod OddBases
pub mod Quotients
pub mod Twos
