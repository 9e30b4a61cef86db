pub mod Searching
pub mod Soundness
pub mod Ways
pub mod Once
