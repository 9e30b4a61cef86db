pub mod BookState
pub mod BookUpdates
pub mod Demand3
pub mod Wellformed
pub mod Lossless
pub mod Records
pub mod Zeros
pub mod Tables
