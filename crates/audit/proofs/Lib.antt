pub mod Putting
pub mod OneRecord
pub mod History
pub mod Following
pub mod Pieces
pub mod Measuring
pub mod Nearest
pub mod Only
