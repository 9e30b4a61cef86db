pub mod Rooms
pub mod Origins
pub mod Pictured
pub mod Recorded
pub mod Begun
pub mod Following
pub mod Ways
