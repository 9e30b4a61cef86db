pub mod SingleJudged
pub mod SingleTests
