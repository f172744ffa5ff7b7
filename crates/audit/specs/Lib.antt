pub mod Following
pub mod Putting
pub mod Measuring
