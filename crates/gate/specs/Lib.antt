pub mod Rooms
pub mod Doors
pub mod Shared
