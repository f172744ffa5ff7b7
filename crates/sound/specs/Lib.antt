pub mod Check
pub mod Checking
pub mod Lent
