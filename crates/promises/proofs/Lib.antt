pub mod Lowest
pub mod Demands
