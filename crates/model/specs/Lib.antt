pub mod Book
pub mod Updates
pub mod Claim
pub mod Wellformed
pub mod Lossless
pub mod Records
pub mod Tables
