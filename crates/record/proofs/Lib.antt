-- The theorems of the step record, `Says`, `RoundTrip` and `Refusal`, which upper crates cite, and the laws behind them.
pub mod Digits
pub mod KindNumbers
pub mod FieldBytes
pub mod Unused
pub mod Tested
pub mod Says
pub mod RoundTrip
pub mod Refusal
pub mod Pieces
