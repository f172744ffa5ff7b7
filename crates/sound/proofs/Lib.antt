pub mod Whole
pub mod Tally
pub mod Fits
pub mod Usable
