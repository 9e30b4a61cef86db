pub mod Families
pub mod Slots
pub mod Sound
