pub mod Fields
pub mod Pictures
