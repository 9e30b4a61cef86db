pub mod Unread
