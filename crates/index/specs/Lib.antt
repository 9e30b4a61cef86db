pub mod Orders
pub mod Index
pub mod Memory
pub mod Plans
pub mod Changes
pub mod Steps
pub mod Promises
