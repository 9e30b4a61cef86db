pub mod Fields
pub mod Explain
pub mod Conditions
pub mod Steps
pub mod OneFile
