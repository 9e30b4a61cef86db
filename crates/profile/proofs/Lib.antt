pub mod Ends
pub mod Programs
pub mod Plain
pub mod Counter
pub mod Small
