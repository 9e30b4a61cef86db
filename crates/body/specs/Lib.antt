pub mod Bodies
pub mod Stores
