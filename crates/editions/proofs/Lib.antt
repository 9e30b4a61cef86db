pub mod EditionsAgree
