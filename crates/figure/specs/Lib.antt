pub mod Figure
pub mod Kept
