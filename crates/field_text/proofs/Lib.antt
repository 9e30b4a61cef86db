pub mod Choices
pub mod Numbers
pub mod Parts
