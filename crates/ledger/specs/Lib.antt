pub mod Ready
pub mod Writing
pub mod Judging
pub mod Rooms
pub mod Answering
pub mod Running
