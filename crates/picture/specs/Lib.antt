pub mod Pictures
pub mod Kept
