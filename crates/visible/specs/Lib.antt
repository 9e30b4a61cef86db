pub mod TableFigure
pub mod Outcome
