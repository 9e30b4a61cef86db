pub mod Ends
pub mod Programs
pub mod Counter
pub mod Plain
