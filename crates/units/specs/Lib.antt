-- What the contracts cite: sums as a unit holds them, the laws of a unit, and that the three units keep them.
pub mod Capped
pub mod Laws
pub mod Kept
