pub mod Notifications
pub mod Desktop
