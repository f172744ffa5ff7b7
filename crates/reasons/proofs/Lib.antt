pub mod Chain
pub mod Ranges
pub mod Roles
