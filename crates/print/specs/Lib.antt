pub mod Laid
pub mod Texts
pub mod Templates
