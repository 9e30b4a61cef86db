pub mod Valid
pub mod Layouts
