pub mod Answers
pub mod Strings
pub mod Settings
pub mod Writing
pub mod ReadBack
pub mod WriteBack
pub mod RoundTrip
