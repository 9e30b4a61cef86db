pub mod Layout
pub mod Settings
pub mod Records
pub mod Kinds
pub mod Rules
pub mod Reading
pub mod Writing
pub mod RoundTrip
