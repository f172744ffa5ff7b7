-- The laws of capped sums that upper crates cite.
pub mod Caps
