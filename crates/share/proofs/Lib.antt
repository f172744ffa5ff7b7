-- What is proved of the method, apart from the code. Other crates cite the first five files; the others are the way to
-- them, each on those above it.
pub mod Promised
pub mod Answered
pub mod Limits
pub mod Cases
pub mod Sums
mod Largest
mod OneShare
mod CutOff
mod Squares
mod Farthest
mod Giving
mod Search
