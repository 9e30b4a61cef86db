pub mod Flags
pub mod Icons
pub mod Judge
