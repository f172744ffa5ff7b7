pub mod Chains
pub mod Split
