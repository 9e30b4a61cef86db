pub mod Table
pub mod Memory
pub mod Changes
pub mod Outcome
pub mod Promises
