pub mod LayoutsWritten
pub mod LayoutsJoined
pub mod LayoutsLossless
pub mod LayoutsParts
pub mod ValidMemory
pub mod Examples
