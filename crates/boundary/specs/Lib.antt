pub mod Numbers
pub mod Readable
pub mod Fitting
pub mod Lent
pub mod Inner
